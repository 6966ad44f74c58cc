-- The next turn, of the rows as they were asked for; and the end.
use Rattle.runs.specs.Claims.{claims_straight, claims_alone}
use Rattle.runs.proofs.run_alone.Goals as goal

pub loop-turn-preserved : goal.loop-turn-preserved
loop-turn-preserved c =
    let a = c.args in
    let k = c.loop-turn in
    claims_straight a.bound a.parts.now a.texts.now a.plan.now a.waits a.state.now a.lent k.texts k.state k.turn k.invariant c.loop-turn-test.true c.next-turn.new.b c.next-turn.new.s c.next-turn.result c.next-turn.ensures.0

pub returns : goal.returns
returns c =
    let a = c.args in
    let k = c.loop-turn in
    claims_alone a.bound a.parts.now a.texts.now a.plan.now a.waits a.state.now a.lent k.texts k.state k.turn c.answer.result k.invariant c.loop-turn-test.false c.answer.ensures
