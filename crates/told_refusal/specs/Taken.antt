-- What is known of a text that was read: no contract can say which bytes were. Definitions only.
use Rattle.std.specs.Prelude.{ℕ, ◌+◌, ◌≤◌, ◌<◌, ◌≡◌, List, [], ◌++◌, length, take}
use Rattle.spot.specs.Seen.{countable, Describes}
use Rattle.spot.specs.declared.seen.Seen.{Seen}
use Rattle.told_refusal.specs.declared.Taken.{Taken}

-- what s says of any text, r says of it with the bytes u behind it
abbrev pub Sees : List ℕ → Seen → Seen → Type 0
Sees u s r = (t : List ℕ) → length t + length u < countable → Describes t s → Describes (t ++ u) r

-- with some bytes
pub record SeesOn (s r : Seen) : Type 0 where
  pub bytes : List ℕ
  pub sees : Sees bytes s r

-- the text is what stands in front of the lent slice and what was read behind it: nothing, where the slice is not full
pub record Takes (kept kept' : List ℕ) (r : Taken) : Type 0 where
  pub size : length kept' ≡ length kept
  pub within : r.kept ≤ length kept'
  pub behind : List ℕ
  pub whole : r.kept < length kept' → behind ≡ []
  pub seen : r.kept + length behind < countable → Describes (take r.kept kept' ++ behind) r.seen
