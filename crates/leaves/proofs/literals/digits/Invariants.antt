-- `digits`: the digits left go on from what is read.
use Rattle.std.proofs.Common.{◌≡◌, ◌≤◌, drop}
use Rattle.leaves.specs.Numbers.{most, digits}
use Rattle.leaves.proofs.literals.digits.Given as goal

abbrev pub invariant-loop-b : goal.invariant-loop-b
invariant-loop-b l = (l.v ≤ most) × (digits l.v (drop l.b-index l.b-items) ≡ digits 0 l.b-items)
