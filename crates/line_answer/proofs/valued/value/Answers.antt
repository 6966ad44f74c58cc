-- `line::valued::value` meets its contract: no type, or a type and what has it.
use mathlib.Core.Path.{refl}
use Rattle.line_answer.specs.Valued.{without_type, with_type}
use Rattle.line_answer.proofs.valued.value.Goals as goal

pub returns-then-letter-eq0 : goal.returns-then-letter-eq0
returns-then-letter-eq0 c = λ line h. without_type h refl c.requires c.type_of-letter.ensures c.if-letter-eq0.true c.refused.ensures

pub returns : goal.returns
returns c = λ line h. with_type h refl c.requires c.type_of-letter.ensures c.if-letter-eq0.false c.worth.ensures
