-- `found`: up to i every element misses.
use Rattle.std.proofs.Common.{◌≡◌, true, ℕ, ◌<◌, get_or}
use Rattle.paper_expressions.specs.Values.{unknown}
use Rattle.paper_expressions.proofs.Laws.Only.{missb}
use Rattle.values.specs.Meaning.{meaning_l, meaning_v}
use Rattle.sequences.proofs.membership.found.Given as goal

abbrev pub invariant-loop-i : goal.invariant-loop-i
invariant-loop-i l = (k : ℕ) → k < l.i → missb (meaning_v l.bytes l.b) (get_or (meaning_l l.bytes l.l) k unknown) ≡ true
