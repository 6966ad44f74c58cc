-- `lengths`: the table is the definition's.
use Rattle.std.proofs.Common.{refl}
use Rattle.leaves.specs.Names.{name_lengths}
use Rattle.leaves.proofs.names.lengths.Goals as goal

pub returns : goal.returns
unfolding name_lengths
returns c = refl
