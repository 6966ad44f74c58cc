-- The longest match as the code holds it, and where comments can end. Definitions only.
use Rattle.std.specs.Prelude.{ℕ, ◌+◌, ◌*◌, ◌≤◌, ◌<◌, ◌≡◌, Bool, true, false, cond, ◌⊎◌, List, [], ◌∷◌, ltb, length, get_or}
use Rattle.matches.specs.Machine.{acc_of, Takes}
use Rattle.matches.specs.declared.Best.{Best}

abbrev pub better_of : Best → ℕ → ℕ → ℕ → Best
better_of best q r n = cond (acc_of q) (cond (ltb best.len n) (record { len = n; rule = r }) best) best

abbrev pub begin_of : Bool → List ℕ
begin_of true = 27 ∷ 1 ∷ 2 ∷ 3 ∷ 4 ∷ 5 ∷ 0 ∷ []
begin_of false = 27 ∷ 1 ∷ 2 ∷ 3 ∷ 4 ∷ 5 ∷ 6 ∷ []

-- of the matches that come before p in the order by length and then by rule, the best one: none, or the longest, the first in order
pub record Sofar (t : List ℕ) (at p : ℕ) (best : Best) : Type 0 where
  pub is : 0 < best.len → Takes t at best.rule best.len
  pub seen : 0 < best.len → best.len * 7 + best.rule < p
  pub top : (s m : ℕ) → Takes t at s m → m * 7 + s < p → (m < best.len) ⊎ ((m ≡ best.len) × (best.rule ≤ s))

-- the longest match, the first rule in order that has it
pub record Settled (t : List ℕ) (at : ℕ) (best : Best) : Type 0 where
  pub is : 0 < best.len → Takes t at best.rule best.len
  pub top : (s m : ℕ) → Takes t at s m → (m < best.len) ⊎ ((m ≡ best.len) × (best.rule ≤ s))

-- the end of a comment, **/, stands at p
pub record Closes (t : List ℕ) (p : ℕ) : Type 0 where
  pub inside : p + 3 ≤ length t
  pub first : get_or t p 0 ≡ 42
  pub second : get_or t (p + 1) 0 ≡ 42
  pub third : get_or t (p + 2) 0 ≡ 47

-- no end of a comment stands at last or later
abbrev pub Marks : List ℕ → ℕ → Type 0
Marks t last = (p : ℕ) → Closes t p → p < last
