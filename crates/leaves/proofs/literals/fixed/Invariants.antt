-- `fixed`: the bytes left go on from what is read.
use Rattle.std.proofs.Common.{◌≡◌, ◌≤◌, drop}
use Rattle.leaves.specs.Numbers.{most, fixed}
use Rattle.leaves.proofs.literals.fixed.Given as goal

abbrev pub invariant-loop-i : goal.invariant-loop-i
invariant-loop-i l = (l.v ≤ most) × (fixed l.v (drop l.i l.b-items) ≡ fixed 0 l.b-items)
