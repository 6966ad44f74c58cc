-- `type_number`: by the law of its list.
use mathlib.Core.Path.{◌∙◌}
use Rattle.std.proofs.Common.{rules}
use Rattle.row_numbers.specs.OneOf.{type_is}
use Rattle.row_numbers.proofs.type_number.Goals as goal

pub returns : goal.returns
returns c = c.one_of.ensures ∙ type_is c.args.n
