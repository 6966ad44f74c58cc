-- `elements`: the cells from the k-th on are put.
use Rattle.evaluator.specs.Items.{Filled}
use Rattle.evaluator.proofs.items.elements.Given as goal

abbrev pub invariant-loop-k : goal.invariant-loop-k
invariant-loop-k l = Filled l.tags l.nums l.p l.n l.k l.l
