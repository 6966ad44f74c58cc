-- `columns`: the rows up to k are written.
use Rattle.plan_fill.specs.Rounds.{RowsTo}
use Rattle.plan_fill.proofs.columns.columns.Given as goal

abbrev pub invariant-loop-k : goal.invariant-loop-k
invariant-loop-k l = RowsTo l.rows l.n l.bytes l.tasks l.m l.items l.d l.fn.f l.k l.at l.f
