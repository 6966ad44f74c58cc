-- `names`: the table is the definition's.
use Rattle.std.proofs.Common.{refl}
use Rattle.token_tests.specs.LeftOutTest.{name_bytes}
use Rattle.token_tests.proofs.edition.names.Goals as goal

pub returns : goal.returns
unfolding name_bytes
returns c = refl
