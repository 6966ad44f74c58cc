-- `discarded`: by the tasks passed, parents first.
use Rattle.std.proofs.Common.{◌≡◌, length}
use Rattle.passes.specs.Ends.{DiscardedUpto}
use Rattle.passes.proofs.discarded.Given as goal

abbrev pub invariant-loop-k : goal.invariant-loop-k
invariant-loop-k l = (length l.m ≡ 32) × DiscardedUpto l.s l.f l.w l.pre l.wait l.ended l.k l.m
