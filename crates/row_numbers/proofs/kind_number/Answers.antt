-- `kind_number`: by the law of its list.
use Rattle.std.proofs.Common.{ap, ◌∙◌}
use Rattle.std.proofs.Common.{rules}
use Rattle.row_numbers.specs.OneOf.{one_of, kind_is}
use Rattle.row_numbers.proofs.kind_number.Goals as goal

pub returns : goal.returns
returns c = c.one_of.ensures ∙ ap (one_of 0 6) c.from.ensures ∙ kind_is c.args.n
