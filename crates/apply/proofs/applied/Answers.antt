-- `applied`: by the number of operands.
use Rattle.std.proofs.Common.{rules}
use Rattle.apply.specs.Applies.{no_number}
use Rattle.apply.proofs.applied.Goals as goal

pub returns-in_default : goal.returns-in_default
returns-in_default c = no_number _ _ _ _ _ _ _ (search rules) (search rules) (search rules)
