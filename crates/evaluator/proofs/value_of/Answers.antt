-- `value_of`: whatever clauses fit give the value, and the definitions promise that some do.
use Rattle.evaluator.specs.Published.{published}
use Rattle.evaluator.proofs.value_of.Goals as goal

pub returns : goal.returns
returns c = published _ _ _ _ _ _ c.part_value.ensures
