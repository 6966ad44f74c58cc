-- `line::valued::worth` meets its contract: the value is the published one, within the limits, and so written.
use Rattle.std.proofs.Common.{refl}
use Rattle.line_answer.specs.Valued.{with_value}
use Rattle.line_answer.proofs.valued.worth.Goals as goal

pub returns : goal.returns
returns c = λ line h ty q k. with_value h refl c.requires c.value_of-v.result refl c.value_of-v.ensures c.gives.ensures q k
