-- `push_once`: the row that stands there, or one behind the others.
use Rattle.changes.specs.Push.{asks_there, asks_new}
use Rattle.changes.proofs.Rows.push_once.Goals as goal

pub returns-then-not-has-clause-asks : goal.returns-then-not-has-clause-asks
returns-then-not-has-clause-asks c = asks_new _ _ _ _ _ _ _ _ c.if-not-has.true c.has.ensures c.push.ensures.pushes

pub returns-else-not-has-clause-asks : goal.returns-else-not-has-clause-asks
returns-else-not-has-clause-asks c = asks_there _ _ _ _ _ _ c.if-not-has.false c.has.ensures
