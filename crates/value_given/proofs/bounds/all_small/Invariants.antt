-- `all_small`: the cells passed are within the limits.
use Rattle.value_given.specs.Bounds.{Upto}
use Rattle.value_given.proofs.bounds.all_small.Given as goal

abbrev pub invariant-loop-i : goal.invariant-loop-i
invariant-loop-i l = Upto l.tags l.nums l.bytes l.shape l.i
