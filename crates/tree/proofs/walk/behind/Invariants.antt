-- `behind`: what is behind the plan that is looked at is behind the task.
use Rattle.std.proofs.Common.{ℕ, ◌-◌}
use Rattle.tree.specs.Walk.{Behind}
use Rattle.tree.proofs.walk.behind.Given as goal

abbrev pub invariant-loop-up : goal.invariant-loop-up
invariant-loop-up l = (r : ℕ) → Behind l.plan (32 - l._up) l.u r → Behind l.plan 32 l.t r
