-- `text`: it is, or is not.
use Rattle.std.proofs.Common.{refl}
use Rattle.task_rows.specs.Answers.{text_yes, text_no}
use Rattle.task_rows.proofs.text.Goals as goal

pub returns-then-yes : goal.returns-then-yes
returns-then-yes c = text_yes c.args.h c.name.result c.if-yes.true refl c.name.ensures

pub returns-else-yes : goal.returns-else-yes
returns-else-yes c = text_no c.args.h c.plain.result c.if-yes.false c.plain.ensures
