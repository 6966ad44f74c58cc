-- `lengths`: the table is the definition's.
use Rattle.std.proofs.Common.{refl}
use Rattle.token_tests.specs.LeftOutTest.{name_lengths}
use Rattle.token_tests.proofs.edition.lengths.Goals as goal

pub returns : goal.returns
unfolding name_lengths
returns c = refl
