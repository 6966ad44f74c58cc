-- `code`: the table is the definition's.
use Rattle.std.proofs.Common.{refl}
use Rattle.leaves.specs.Names.{name_codes}
use Rattle.leaves.proofs.names.code.Goals as goal

pub returns : goal.returns
unfolding name_codes
returns c = refl
