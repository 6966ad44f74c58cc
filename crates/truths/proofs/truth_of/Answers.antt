-- `truth_of`: its value is true.
use Rattle.truths.specs.Truth.{truth_is}
use Rattle.truths.proofs.truth_of.Goals as goal

pub returns : goal.returns
returns c = truth_is _ _ _ _ _ c.value_at.ensures c.scalar_of.ensures c.is_true.ensures
