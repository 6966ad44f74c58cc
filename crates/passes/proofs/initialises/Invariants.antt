-- `initialises`: by the tasks passed.
use Rattle.std.proofs.Common.{◌≡◌, length}
use Rattle.passes.specs.Passes.{InitialisesUpto}
use Rattle.passes.proofs.initialises.Given as goal

abbrev pub invariant-loop-k : goal.invariant-loop-k
invariant-loop-k l = (length l.m ≡ 32) × InitialisesUpto l.s l.f l.starts l.k l.m
