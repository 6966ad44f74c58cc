-- The run over the square table that the bytes stand for, and the numbers of its reply.
use Rattle.square.specs.Square.{square_of}
use Rattle.exports.specs.Outcomes.{runs_told}
use Rattle.exports.proofs.schotterei_run.Goals as goal

pub returns : goal.returns
returns c =
    let a = c.args in
    runs_told a.bound a.parts.now a.texts.now a.plan.now c.unpack-w.result (square_of a.waits.now) a.state.now c.run.new.texts c.run.new.state a.changes.now c.run.new.changes c.run.result c.ran.result c.unpack-w.ensures c.run.ensures c.ran.ensures
