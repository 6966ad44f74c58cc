-- RFC 4180 as a machine: what each kind of byte does in each mode. Every entry is written out.
use Rattle.std.specs.Prelude.{Bool, true, false, ℕ, eqb}
use Rattle.separated.specs.declared.machine.Kind.{Kind}
use Rattle.separated.specs.declared.machine.Kind.TheVariants.{Quote, Newline, Return, Separator, Other}
use Rattle.separated.specs.declared.machine.Mode.{Mode}
use Rattle.separated.specs.declared.machine.Mode.TheVariants.{Before, Bare, Quoted, Closed, Returned, Lost}
use Rattle.separated.specs.declared.machine.Act.{Act}
use Rattle.separated.specs.declared.machine.Act.TheVariants.{Keep, Pass, End, Last, Fault}
use Rattle.separated.specs.declared.machine.Move.{Move}

abbrev pub pick : Bool → Kind → Kind → Kind
pick true a b = a
pick false a b = b

-- DQUOTE is 34, LF 10, CR 13
abbrev pub kind_of : ℕ → ℕ → Kind
kind_of b separator =
    pick (eqb b separator) Separator
    (pick (eqb b 34) Quote
    (pick (eqb b 10) Newline
    (pick (eqb b 13) Return Other)))

abbrev pub move : Act → Mode → Move
move a m = record { act = a; mode = m }

abbrev pub step_of : Mode → Kind → Move
step_of Before Quote = move Pass Quoted
step_of Before Newline = move Last Before
step_of Before Return = move Pass Returned
step_of Before Separator = move End Before
step_of Before Other = move Keep Bare
step_of Bare Quote = move Fault Lost
step_of Bare Newline = move Last Before
step_of Bare Return = move Pass Returned
step_of Bare Separator = move End Before
step_of Bare Other = move Keep Bare
step_of Quoted Quote = move Pass Closed
step_of Quoted Newline = move Keep Quoted
step_of Quoted Return = move Keep Quoted
step_of Quoted Separator = move Keep Quoted
step_of Quoted Other = move Keep Quoted
step_of Closed Quote = move Keep Quoted
step_of Closed Newline = move Last Before
step_of Closed Return = move Pass Returned
step_of Closed Separator = move End Before
step_of Closed Other = move Fault Lost
step_of Returned Quote = move Fault Lost
step_of Returned Newline = move Last Before
step_of Returned Return = move Fault Lost
step_of Returned Separator = move Fault Lost
step_of Returned Other = move Fault Lost
step_of Lost Quote = move Pass Lost
step_of Lost Newline = move Last Before
step_of Lost Return = move Pass Lost
step_of Lost Separator = move Pass Lost
step_of Lost Other = move Pass Lost
