-- `all_of`: the cells passed are of the kind.
use Rattle.value_given.specs.Kinds.{AllOf}
use Rattle.value_given.proofs.kinds.all_of.Given as goal

abbrev pub invariant-loop-i : goal.invariant-loop-i
invariant-loop-i l = AllOf l.tags l.nums l.e l.i
