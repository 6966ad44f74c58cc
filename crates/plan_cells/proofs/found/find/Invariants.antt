-- `find`: none that was passed matches.
use Rattle.std.proofs.Common.{◌≡◌, ℕ, ◌<◌, false}
use Rattle.plan_cells.specs.Finds.{found_at}
use Rattle.plan_cells.proofs.found.find.Given as goal

abbrev pub invariant-loop-k : goal.invariant-loop-k
invariant-loop-k l = (i : ℕ) → i < l.k → found_at l.rows l.bytes l.list l.folded l.h i ≡ false
