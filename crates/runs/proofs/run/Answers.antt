-- The next turn: the rows that are taken back are those that were appended. At the end the rows are blank.
use Rattle.std.proofs.Common.{arith, refl, ◌≡◌, ◌≤◌, length}
use Rattle.paper_calls.specs.Calls.{changes_least}
use Rattle.runs.specs.Claims.{claims_next, next_lent, least}
use Rattle.runs.proofs.run.Goals as goal

pub loop-turn-preserved : goal.loop-turn-preserved
loop-turn-preserved c =
    let a = c.args in
    let k = c.loop-turn in
    let enough : changes_least ≤ length a.changes.now = least a.bound a.parts.now a.texts.now a.plan.now a.waits a.state.now (length a.changes.now) k.texts k.state k.turn k.invariant.0 c.loop-turn-test.true in
    let all : c.next-turn.result.lent ≡ length a.changes.now = next_lent a.bound a.parts.now a.texts.now a.plan.now a.waits a.state.now (length a.changes.now) k.texts k.state k.turn k.invariant.0 c.loop-turn-test.true c.taken-back.result k.changes c.append.new.rows c.next-turn.new.b c.next-turn.new.s c.next-turn.result c.append.ensures c.taken-back.ensures c.next-turn.ensures.0 in
    (claims_next a.bound a.parts.now a.texts.now a.plan.now a.waits a.state.now (length a.changes.now) k.texts k.state k.turn k.invariant.0 c.loop-turn-test.true c.taken-back.result k.changes c.append.new.rows c.next-turn.new.b c.next-turn.new.s c.next-turn.result c.append.ensures c.taken-back.ensures c.next-turn.ensures.0, λ z. absurd (omega arith))

pub returns : goal.returns
returns c = c.loop-turn.invariant.0.ended c.loop-turn-test.false c.args.changes.now c.loop-turn.changes c.clear.new.rows refl c.loop-turn.auto.changes c.loop-turn.invariant.1 c.clear.ensures c.answer.result c.answer.ensures
