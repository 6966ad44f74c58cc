-- The numbers that pass a test, in a lent list. Definitions only.
use Rattle.std.specs.Prelude.{ℕ, zero, suc, ◌+◌, ◌≤◌, ◌<◌, ◌≡◌, Bool, true, false, cond, List, [], ◌∷◌, ◌++◌, length, take, drop, set}

-- the numbers below n that pass, in their order
unfoldable pub passing : (ℕ → Bool) → ℕ → List ℕ
passing f zero = []
passing f (suc n) = passing f n ++ cond (f n) (n ∷ []) []

-- those for which the list l has room
abbrev pub fitting : (ℕ → Bool) → ℕ → List ℕ → List ℕ
fitting f n l = take (length l) (passing f n)

-- the list l before, and l' after them: they stand in front, and the cells behind are as they were; r is how many
pub record Listed (f : ℕ → Bool) (n : ℕ) (l l' : List ℕ) (r : ℕ) : Type 0 where
  pub count : r ≡ length (fitting f n l)
  pub cells : l' ≡ fitting f n l ++ drop r l

-- the number i goes behind the n of a list, if it is one more and there is room
pub data Put (l : List ℕ) (n : ℕ) : Bool → ℕ → List ℕ → ℕ → Type 0 where
  passed : {i : ℕ} → Put l n false i l n
  full : {i : ℕ} → length l ≤ n → Put l n true i l n
  put : {i : ℕ} → n < length l → Put l n true i (set l n i) (n + 1)
