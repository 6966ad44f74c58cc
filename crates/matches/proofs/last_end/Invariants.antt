-- `last_end`: no end of a comment stands at p or later.
use Rattle.matches.specs.Walk.{Marks}
use Rattle.matches.proofs.last_end.Given as goal

abbrev pub invariant-loop-p : goal.invariant-loop-p
invariant-loop-p l = Marks l.text l.p
