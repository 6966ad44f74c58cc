-- `unreached`: the smallest place of the tasks so far.
use Rattle.names.specs.Verdict.{Tells}
use Rattle.names.proofs.walk.unreached.Given as goal

abbrev pub invariant-loop-k : goal.invariant-loop-k
invariant-loop-k l = Tells l.rows l.tasks l.marks l.m l.k l.fn.best l.found
