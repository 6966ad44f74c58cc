-- `first`: what is decided after no cycle.
use Rattle.running.specs.Run.{turned_first}
use Rattle.running.proofs.first.Goals as goal

pub returns : goal.returns
returns c = turned_first _ _ _ _ _ _ _ _ c.ask.ensures.few c.ask.ensures.asked_now c.decide.ensures
