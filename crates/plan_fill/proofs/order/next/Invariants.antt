-- `next`: none that was passed is ready.
use Rattle.std.proofs.Common.{◌≡◌, ℕ, ◌<◌, false}
use Rattle.plan.specs.Writes.{ready}
use Rattle.plan_fill.specs.Rounds.{parents_in, placed_in}
use Rattle.plan_fill.proofs.order.next.Given as goal

abbrev pub invariant-loop-t : goal.invariant-loop-t
invariant-loop-t l = (i : ℕ) → i < l.t → ready (parents_in l.f) (placed_in l.marks) i ≡ false
