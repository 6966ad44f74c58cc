-- `depth`: the plans passed and those above them.
use Rattle.std.proofs.Common.{◌≡◌, ◌+◌, ◌-◌}
use Rattle.tree.specs.Walk.{depth_of}
use Rattle.tree.proofs.walk.depth.Given as goal

abbrev pub invariant-loop-n : goal.invariant-loop-n
invariant-loop-n l = l.n + depth_of l.plan (32 - l.n) l.u ≡ depth_of l.plan 32 l.t
