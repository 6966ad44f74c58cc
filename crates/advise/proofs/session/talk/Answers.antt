-- `talk`: one line more is answered, or was the last.
use Rattle.std.proofs.Common.{true}
use Rattle.advise.specs.Answer.{no_line}
use Rattle.advise.specs.AnswerLaws.{talks_on, talks_last}
use Rattle.advise.proofs.session.talk.Goals as goal

pub loop-turn-init : goal.loop-turn-init
loop-turn-init c = no_line

pub returns-then-is_over : goal.returns-then-is_over
returns-then-is_over c = record { more = true; talks = c.loop-turn.invariant }

pub returns-then-not-turn : goal.returns-then-not-turn
returns-then-not-turn c = talks_last c.loop-turn.invariant c.turn.ensures

pub loop-turn-preserved : goal.loop-turn-preserved
loop-turn-preserved c = talks_on c.loop-turn.invariant c.turn.ensures c.if-not-turn.false

pub returns : goal.returns
returns c = record { more = true; talks = c.loop-turn.invariant }
