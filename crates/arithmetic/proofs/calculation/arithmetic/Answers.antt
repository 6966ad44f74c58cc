-- `arithmetic`: the function on scalars comes to what the definitions' does.
use Rattle.std.proofs.Common.{ap₂, ◌∙◌}
use Rattle.operators.specs.Comes.{means, single_is}
use Rattle.arithmetic.specs.Twins.{arith_c}
use Rattle.arithmetic.proofs.Numbers.{arithmetic_comes}
use Rattle.arithmetic.proofs.calculation.arithmetic.Goals as goal

pub returns : goal.returns
returns c = λ bs.
    let a = c.args in
    means bs _ _ c.single.result tt
    (single_is bs c.single.result c.single.ensures
    ∙ arithmetic_comes bs a.o a.a a.b (c.arithmetic_of.ensures ∙ ap₂ (arith_c a.o) c.scalar_of.ensures c.scalar_of-2.ensures))
