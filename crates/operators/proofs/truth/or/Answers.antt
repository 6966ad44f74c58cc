-- `or`: the test is the definition's, on either side of the first operand.
use Rattle.std.proofs.Common.{arith}
use Rattle.std.proofs.lemmas.Grind.{common_steps}
use Rattle.operators.proofs.Truths.{or_means}
use Rattle.operators.proofs.truth.or.Goals as goal

pub returns : goal.returns
returns c = λ bs. or_means bs c.args.a c.args.b c.single.result c.single.ensures (grind (arith, common_steps))
