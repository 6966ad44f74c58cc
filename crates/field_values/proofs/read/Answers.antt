-- `read`: by the test on the type.
use mathlib.Core.Bool.{true, false}
use Rattle.field_values.specs.ReadingLaws.{read_as}
use Rattle.field_values.proofs.read.Goals as goal

pub returns-then-is_text : goal.returns-then-is_text
returns-then-is_text c = read_as c.args.declared c.args.field.now true c.is_text.ensures c.if-is_text.true c.text.ensures

pub returns-else-is_text : goal.returns-else-is_text
returns-else-is_text c = read_as c.args.declared c.args.field.now false c.is_text.ensures c.if-is_text.false c.typed.ensures
