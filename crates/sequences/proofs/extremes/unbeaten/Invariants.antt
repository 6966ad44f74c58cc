-- `unbeaten`: up to j no element beats the i-th.
use Rattle.std.proofs.Common.{◌≡◌, true, ℕ, ◌<◌}
use Rattle.values.specs.Meaning.{meaning_l}
use Rattle.operators.specs.Means.{end}
use Rattle.sequences.specs.Tests.{holdsb}
use Rattle.sequences.proofs.extremes.unbeaten.Given as goal

abbrev pub invariant-loop-j : goal.invariant-loop-j
invariant-loop-j l = (k : ℕ) → k < l.j → holdsb (end l.e) (meaning_l l.bytes l.l) l.i k ≡ true
