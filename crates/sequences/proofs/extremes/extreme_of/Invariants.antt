-- `extreme_of`: up to i no element is best.
use Rattle.std.proofs.Common.{◌≡◌, false, ℕ, ◌<◌}
use Rattle.paper_expressions.proofs.Laws.Only.{bestb}
use Rattle.values.specs.Meaning.{meaning_l}
use Rattle.operators.specs.Means.{end}
use Rattle.sequences.proofs.extremes.extreme_of.Given as goal

abbrev pub invariant-loop-i : goal.invariant-loop-i
invariant-loop-i l = (k : ℕ) → k < l.i → bestb (end l.e) (meaning_l l.bytes l.l) k ≡ false
