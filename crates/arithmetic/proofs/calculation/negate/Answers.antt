-- `negate`: the function on scalars comes to what the definitions' does, within the limits.
use Rattle.std.proofs.Common.{ap, ◌∙◌}
use Rattle.operators.specs.Comes.{means, single_is}
use Rattle.arithmetic.specs.Twins.{negate_c}
use Rattle.arithmetic.proofs.Numbers.{negate_comes}
use Rattle.arithmetic.proofs.calculation.negate.Goals as goal

pub returns : goal.returns
returns c = λ bs l.
    means bs _ _ c.single.result tt
    (single_is bs c.single.result c.single.ensures ∙ negate_comes bs c.args.a (c.negate_of.ensures ∙ ap negate_c c.scalar_of.ensures) l)
