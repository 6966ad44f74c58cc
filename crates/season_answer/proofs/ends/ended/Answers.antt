-- `ended`: the cycles, and the word of the ending.
use Prim.Native.Nat.{ℕ}
use mathlib.Core.Path.{ap}
use Rattle.std.proofs.Common.{arith, ne_eqb}
use Rattle.digits.specs.AppendsLaws.{append_then, appends_as}
use Rattle.season_answer.specs.Fields.{ended_written}
use Rattle.season_answer.proofs.ends.ended.Goals as goal

pub returns-in-1 : goal.returns-in-1
returns-in-1 c =
    appends_as (ap (λ (e : ℕ). ended_written e c.args.n c.args.separator) c.in-1.is) (append_then (append_then c.number-q.ensures c.byte-p.ensures) c.last.ensures)

pub returns-in-2 : goal.returns-in-2
returns-in-2 c =
    appends_as (ap (λ (e : ℕ). ended_written e c.args.n c.args.separator) c.in-2.is) (append_then (append_then c.number-q.ensures c.byte-p.ensures) c.last-in-2.ensures)

pub returns-in_default : goal.returns-in_default
returns-in_default c =
    simp (ne_eqb c.args.ending 1 (λ e. omega arith), ne_eqb c.args.ending 2 (λ e. omega arith)) (append_then (append_then c.number-q.ensures c.byte-p.ensures) c.last-in_default.ensures)
