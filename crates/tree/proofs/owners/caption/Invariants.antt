-- `caption`: the rows behind the owner that were passed are descriptions or mandatory.
use Rattle.row_tests.specs.Table.{kind_of}
use Rattle.tree.specs.Owned.{Passing}
use Rattle.tree.proofs.owners.caption.Given as goal

abbrev pub invariant-loop-i : goal.invariant-loop-i
invariant-loop-i l = Passing (kind_of l.rows) l.j 1365 l.i
