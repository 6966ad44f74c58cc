-- `prepare`: the plan, and the state of as many tasks as it counts.
use Rattle.load.specs.LoadsLaws.{prepared}
use Rattle.load.proofs.prepare.Goals as goal

pub returns : goal.returns
returns c = prepared c.fill.ensures c.number.ensures c.«open».ensures
