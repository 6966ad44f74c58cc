-- `row`: the rows passed are counted, and the n-th is not among them.
use Rattle.row_tests.specs.Table.{kind_of}
use Rattle.tree.specs.Owned.{begins_kind, Counts}
use Rattle.tree.proofs.owners.row.Given as goal

abbrev pub invariant-loop-i : goal.invariant-loop-i
invariant-loop-i l = Counts (begins_kind l.o) (kind_of l.rows) l.n 1365 l.seen l.i
