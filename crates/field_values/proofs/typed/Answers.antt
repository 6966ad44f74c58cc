-- `typed`: a value, or the refusal of what is wrong.
use Rattle.field_values.specs.ReadingLaws.{as_value, as_wrong}
use Rattle.field_values.proofs.typed.Goals as goal

pub returns-in-Value : goal.returns-in-Value
returns-in-Value c = as_value c.args.declared c.read.ensures.1 c.in-Value.is

pub returns-in-Wrong : goal.returns-in-Wrong
returns-in-Wrong c = as_wrong c.args.declared c.read.ensures.1 c.in-Wrong.is c.number_of.ensures
