-- `next`: no token that was passed is a leaf.
use Rattle.std.proofs.Common.{◌≡◌, ◌≤◌, ◌-◌, max, length}
use Rattle.told_refusal.specs.Leaves.{leaf_from, next_leaf}
use Rattle.told_refusal.proofs.leaf.next.Given as goal

abbrev pub invariant-loop-k : goal.invariant-loop-k
invariant-loop-k l = (l.k ≤ max l.i (length l.kinds)) × (leaf_from l.kinds l.k (length l.kinds - l.k) ≡ next_leaf l.kinds l.i)
