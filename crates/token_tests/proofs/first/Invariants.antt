-- `first`: no token before the one at hand fails the test.
use Rattle.std.proofs.Common.{ℕ, ◌≡◌, ◌<◌, false}
use Rattle.leaves.specs.Source.{source}
use Rattle.token_tests.specs.Tests.{fails_at}
use Rattle.token_tests.proofs.first.Given as goal

abbrev pub invariant-loop-i : goal.invariant-loop-i
invariant-loop-i l = (j : ℕ) → j < l.i → fails_at l.test (source l.text l.kinds l.places l.lengths) j ≡ false
