-- What is claimed in every turn, and that the lent rows are as they were until some are asked for.
use Rattle.std.proofs.Common.{◌-◌, ◌≡◌, length}
use Rattle.runs.specs.Claims.{Claims}
use Rattle.runs.proofs.run.Given as goal

abbrev pub invariant-loop-turn : goal.invariant-loop-turn
invariant-loop-turn l = Claims l.bound l.parts l.fn.texts l.plan l.waits l.fn.state (length l.fn.changes) l.texts l.state l.turn × (l.turn.lent ≡ 0 → l.changes ≡ l.fn.changes)

abbrev pub decreases-loop-turn : goal.decreases-loop-turn
decreases-loop-turn l = l.bound - l.turn.cycles
