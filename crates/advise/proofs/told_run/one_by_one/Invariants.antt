-- `one_by_one`: the cycles before were bounded, so they are one run.
use Rattle.advise.specs.RunLaws.{Upto}
use Rattle.advise.proofs.told_run.one_by_one.Given as goal

abbrev pub invariant-loop-i : goal.invariant-loop-i
invariant-loop-i l = Upto l.parts l.initial.texts l.plan l.waits l.initial.state l.i l.texts l.state
