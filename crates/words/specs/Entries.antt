-- The strings that the look-up knows, in their order, and the table that holds them. Definitions only.
use Rattle.std.specs.Prelude.{ℕ, ◌+◌, ◌≤◌, ◌<◌, ◌≡◌, Bool, true, false, List, [], ◌∷◌, ◌++◌, map, length, get_or}
use Prim.Native.String.{String}
use Rattle.paper_expressions.specs.Bytes.{bytes}
use Rattle.paper_tokens.specs.Words.{reserved, yes_or_no, data_types}

-- the reserved strings by their terminals, then yes and no, then the data types
unfoldable pub strings : List (List ℕ)
strings = map (λ (e : ℕ × String). bytes e.1) reserved ++ map bytes yes_or_no ++ map bytes data_types

-- where yes and no begin among them, where the data types do, and how many there are
unfoldable pub places : List ℕ
places = length reserved ∷ (length reserved + length yes_or_no) ∷ length strings ∷ []

-- one after the other, each behind its length
unfoldable pub packed : List (List ℕ) → List ℕ
packed [] = []
packed (w ∷ ws) = length w ∷ (w ++ packed ws)

unfoldable pub table : List ℕ
table = packed strings

-- w is the r-th string, or r is their number and w is none of them
pub record Found (w : List ℕ) (r : ℕ) : Type 0 where
  pub within : r ≤ 107
  pub not_before : (i : ℕ) → i < r → ¬ (get_or strings i [] ≡ w)
  pub is : r < 107 → get_or strings r [] ≡ w

pub record Same (v w : List ℕ) (r : Bool) : Type 0 where
  pub yes : r ≡ true → v ≡ w
  pub no : r ≡ false → ¬ (v ≡ w)
