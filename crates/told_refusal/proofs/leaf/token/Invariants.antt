-- `token`: before each turn the parts from p on are left.
use Rattle.std.proofs.Common.{◌≡◌, ◌-◌}
use Rattle.told_refusal.specs.Leaves.{past_parts, token_of}
use Rattle.told_refusal.proofs.leaf.token.Given as goal

abbrev pub invariant-loop-p : goal.invariant-loop-p
invariant-loop-p l = past_parts l.cells l.kinds l.t l.p (l.to - l.p) ≡ token_of l.cells l.from l.to l.kinds l.i
