-- `judged`: what the loop over the rows tells, with the first of the columns.
use native.Mathlib.Omega.{arith}
use lib.ListN.{length-take}
use borrow.Author.Rules.{rules}
use Rattle.parts.specs.Part.{table}
use Rattle.types.specs.JudgedLaws.{judged_with}
use Rattle.types.proofs.judged.Statement.{statement}
use Rattle.types.proofs.judged.Tie as tie

slice-aggregate-misfits : tie.Need-slice_bounds-misfits-end
slice-aggregate-misfits c = simp length-take (omega arith)

returns : tie.Need-returns
returns c =
    let a = c.args in
    judged_with a.rows.now a.n (table a.cells.now a.bytes.now) a.names.now a.types.now a.m c.misfits.result c.misfits.ensures

pub judged_spec : {M : Type 1} → statement M
judged_spec = tie.close (tie.spec slice-aggregate-misfits (λ c κs. search rules) returns)
