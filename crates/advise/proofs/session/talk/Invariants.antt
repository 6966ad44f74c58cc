-- `talk`: the lines before were answered.
use Rattle.std.proofs.Common.{true}
use Rattle.advise.specs.Answer.{Talks}
use Rattle.advise.proofs.session.talk.Given as goal

abbrev pub invariant-loop-turn : goal.invariant-loop-turn
invariant-loop-turn l = Talks l.rows l.parts l.plan l.waits l.fn.texts l.fn.state l.texts l.state true
