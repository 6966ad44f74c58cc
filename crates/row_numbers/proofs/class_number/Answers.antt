-- `class_number`: by the law of its list.
use mathlib.Core.Path.{◌∙◌}
use Rattle.std.proofs.Common.{rules}
use Rattle.row_numbers.specs.OneOf.{class_is}
use Rattle.row_numbers.proofs.class_number.Goals as goal

pub returns : goal.returns
returns c = c.one_of.ensures ∙ class_is c.args.n
