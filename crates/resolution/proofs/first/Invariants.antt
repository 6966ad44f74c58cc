-- `first`: the entries that are left decide what all decide.
use Rattle.std.proofs.Common.{◌≡◌, [], ◌∷◌, length}
use Rattle.resolution.specs.Resolution.{first_of}
use Rattle.resolution.proofs.first.Given as goal

abbrev pub invariant-loop-entries : goal.invariant-loop-entries
invariant-loop-entries l = first_of l.promoted (l.x ∷ l.y ∷ l.z ∷ []) l.list ≡ first_of l.promoted (l.x ∷ l.y ∷ l.z ∷ []) l.entries

abbrev pub decreases-loop-entries : goal.decreases-loop-entries
decreases-loop-entries l = length l.entries
