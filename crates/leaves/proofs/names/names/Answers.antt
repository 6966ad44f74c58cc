-- `names`: the table is the definition's.
use Rattle.std.proofs.Common.{refl}
use Rattle.leaves.specs.Names.{name_bytes}
use Rattle.leaves.proofs.names.names.Goals as goal

pub returns : goal.returns
unfolding name_bytes
returns c = refl
