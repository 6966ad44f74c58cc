-- `not`: the test comes to what the definitions' does.
use Rattle.std.proofs.Common.{ap, ◌∙◌}
use Rattle.operators.specs.Comes.{means, single_is}
use Rattle.operators.specs.Twins.{false_c}
use Rattle.operators.proofs.Truths.{not_comes}
use Rattle.operators.proofs.truth.not.Goals as goal

pub returns : goal.returns
returns c = λ bs. means bs _ _ c.single.result tt (single_is bs c.single.result c.single.ensures ∙ not_comes bs c.args.a (c.is_false.ensures ∙ ap false_c c.scalar_of.ensures))
