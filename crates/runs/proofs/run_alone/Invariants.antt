-- What is claimed in every turn.
use Rattle.std.proofs.Common.{◌-◌}
use Rattle.runs.specs.Claims.{Claims}
use Rattle.runs.proofs.run_alone.Given as goal

abbrev pub invariant-loop-turn : goal.invariant-loop-turn
invariant-loop-turn l = Claims l.bound l.parts l.fn.texts l.plan l.waits l.fn.state l.lent l.texts l.state l.turn

abbrev pub decreases-loop-turn : goal.decreases-loop-turn
decreases-loop-turn l = l.bound - l.turn.cycles
