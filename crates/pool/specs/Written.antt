-- Cells that are written one behind the other into a column, while all others stay. Definitions only.
use Rattle.std.specs.Prelude.{◌≡◌, ◌⊎◌, List, ℕ, ◌+◌, ◌≤◌, ◌<◌, get_or, length}
use Rattle.parts.specs.Encode.{Spelt}

-- the cells of l' from a on are those of s, and the others are those of l
pub record Written (l l' : List ℕ) (a : ℕ) (s : List ℕ) : Type 0 where
  pub long : length l' ≡ length l
  pub inside : Spelt l' a s
  pub outside : (j : ℕ) → (j < a) ⊎ (a + length s ≤ j) → get_or l' j 0 ≡ get_or l j 0
