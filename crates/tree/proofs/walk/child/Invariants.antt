-- `child`: no task that was passed has the parent.
use Rattle.std.proofs.Common.{◌≡◌, ℕ, ◌≤◌, ◌<◌}
use Rattle.waits.specs.Twins.{parent_at}
use Rattle.tree.proofs.walk.child.Given as goal

abbrev pub invariant-loop-t : goal.invariant-loop-t
invariant-loop-t l = (m : ℕ) → l.from ≤ m → m < l.t → parent_at l.plan m ≡ l.x → ⊥
