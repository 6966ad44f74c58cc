-- `same_text`: the bytes passed are the same.
use Rattle.triggering.specs.Hit.{Agree}
use Rattle.triggering.proofs.same_text.Given as goal

abbrev pub invariant-loop-k : goal.invariant-loop-k
invariant-loop-k l = Agree l.b l.p l.name l.k
