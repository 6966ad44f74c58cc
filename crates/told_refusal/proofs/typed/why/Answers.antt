-- `why`: as `settle` answers, from the first part of the row's expression up to its end.
use Rattle.std.proofs.Common.{ℕ, subst, IfSome, ◌<◌}
use Rattle.std.specs.Option.{unwrap_or}
use Rattle.parts.specs.Part.{table}
use Rattle.row_tests.specs.Table.{cell_of}
use Rattle.told_refusal.specs.Settled.{FirstUntyped}
use Rattle.told_refusal.specs.SettledLaws.{settled_at}
use Rattle.told_refusal.proofs.typed.why.Goals as goal

pub returns-clause-first : goal.returns-clause-first
returns-clause-first c =
    let s = c.args.sheet in
    let x = s.rows.now in
    subst (λ (e : ℕ). FirstUntyped x s.n (table c.args.cells.now s.bytes.now) (cell_of x c.args.j 4) (cell_of x c.args.j 6) (unwrap_or c.settle-p.result e)) c.end-e.ensures
    (settled_at c.first_part.ensures c.end-e.ensures c.settle-p.ensures.settled)

pub returns-clause-within : goal.returns-clause-within
returns-clause-within c = subst (λ (e : ℕ). IfSome c.settle-p.result (λ (p : ℕ). p < e)) c.end-e.ensures c.settle-p.ensures.within
