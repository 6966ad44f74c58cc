-- `waiting`: the rows up to k are told.
use Rattle.plan_fill.specs.Waiting.{WaitsTo}
use Rattle.plan_fill.proofs.waiting.waiting.Given as goal

abbrev pub invariant-loop-k : goal.invariant-loop-k
invariant-loop-k l = WaitsTo l.rows l.n l.bytes l.tasks l.m l.k l.c l.w
