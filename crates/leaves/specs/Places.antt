-- The place of a text among the names of a table, each of which has so many bytes there, and a length. With the laws, name by name.
use Rattle.std.specs.Prelude.{ℕ, zero, suc, ◌+◌, ◌*◌, ◌≤◌, ◌<◌, ◌≡◌, refl, true, false, cond, List, length, get_or}
use Rattle.std.proofs.Common.{not-suc-le-zero, add-one}
use Rattle.paper_expressions.proofs.Laws.Search.{sameb}
use Rattle.parts.specs.Texts.{cells}

abbrev pub entry : List ℕ → List ℕ → ℕ → ℕ → List ℕ
entry names lengths width i = cells names (i * width) (get_or lengths i 0)

-- the first of the names lie within the table
pub record Rows (names lengths : List ℕ) (count width : ℕ) : Type 0 where
  pub sized : count ≤ length lengths
  pub inside : (i : ℕ) → i < count → i * width + get_or lengths i 0 ≤ length names

-- the first of the n names from i on that is w, or the place behind them
abbrev pub place_from : (ℕ → List ℕ) → List ℕ → ℕ → ℕ → ℕ
place_from f w i zero = i
place_from f w i (suc n) = cond (sameb (f i) w) i (place_from f w (suc i) n)

module _ (f : ℕ → List ℕ) (w : List ℕ) where
  pub found : (i n : ℕ) → 0 < n → sameb (f i) w ≡ true → place_from f w i n ≡ i
  found i zero h e = absurd (not-suc-le-zero h)
  found i (suc n) h e = rw e

  pub passed : (i n m : ℕ) → n ≡ m + 1 → sameb (f i) w ≡ false → place_from f w i n ≡ place_from f w (i + 1) m
  passed i n m h e = rw (h, add-one m, add-one i, e)

  pub none_left : (i n : ℕ) → n ≤ 0 → place_from f w i n ≡ i
  none_left i zero h = refl
  none_left i (suc n) h = absurd (not-suc-le-zero h)
