-- `divide`: the function on scalars comes to what the definitions' does.
use Rattle.std.proofs.Common.{ap₂, ◌∙◌}
use Rattle.operators.specs.Comes.{means, single_is}
use Rattle.arithmetic.specs.Twins.{divide_c}
use Rattle.arithmetic.proofs.Numbers.{divide_comes}
use Rattle.arithmetic.proofs.calculation.divide.Goals as goal

pub returns : goal.returns
returns c = λ bs.
    let a = c.args in
    means bs _ _ c.single.result tt
    (single_is bs c.single.result c.single.ensures ∙ divide_comes bs a.a a.b (c.divide_of.ensures ∙ ap₂ divide_c c.scalar_of.ensures c.scalar_of-2.ensures))
