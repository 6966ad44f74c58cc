-- `held`: where there is one.
use Rattle.truths.specs.Truth.{held_there}
use Rattle.truths.proofs.held.Goals as goal

pub returns-else-end-eq0 : goal.returns-else-end-eq0
returns-else-end-eq0 c = held_there _ _ _ _ _ c.if-end-eq0.false c.truth_of.ensures
