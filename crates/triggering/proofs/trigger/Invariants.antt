-- `trigger`: by the tasks passed.
use Rattle.triggering.specs.Hit.{Sent}
use Rattle.triggering.proofs.trigger.Given as goal

abbrev pub invariant-loop-t : goal.invariant-loop-t
invariant-loop-t l = Sent l.plan l.texts l.name l.initial.state l.t l.state
