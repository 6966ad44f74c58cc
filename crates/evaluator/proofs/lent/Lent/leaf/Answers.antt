-- `leaf`: a constant by its kind.
use Rattle.std.proofs.Common.{◌∙◌}
use Rattle.evaluator.specs.Leaves.{leaf_constant}
use Rattle.evaluator.proofs.lent.Lent.leaf.Goals as goal

pub returns-else-kind-eq-ATOM : goal.returns-else-kind-eq-ATOM
returns-else-kind-eq-ATOM c = leaf_constant _ _ _ _ _ _ _ c.if-kind-eq-ATOM.false (c.single.ensures.0, c.single.ensures.1 ∙ c.scalar.ensures)
