-- `answer`: by the length.
use Rattle.guideline_rows.specs.Flags.{answer_two}
use Rattle.guideline_rows.proofs.answer.Goals as goal

pub returns-else-spelt-eq3 : goal.returns-else-spelt-eq3
returns-else-spelt-eq3 c = λ t b s y. answer_two c.spelt.ensures s c.if-spelt-eq3.false y
