-- `find`: none that was passed has the name.
use Rattle.std.proofs.Common.{◌≡◌, ℕ, ◌<◌, false}
use Rattle.known_names.specs.Names.{named_at}
use Rattle.known_names.proofs.lookup.find.Given as goal

abbrev pub invariant-loop-i : goal.invariant-loop-i
invariant-loop-i l = (m : ℕ) → m < l.i → named_at l.rows l.texts l.plan l.s l.name m ≡ false
