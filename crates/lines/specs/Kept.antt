-- What is kept of a line while it comes in, and what one call of `take` does. Definitions only.
use Rattle.std.specs.Prelude.{ℕ, ◌+◌, ◌≤◌, min, ◌≡◌, Bool, true, false, cond, ◌||◌, List, [], ◌∷◌, ◌++◌, eqb, leb, length, take, drop, set}
use Rattle.paper_guideline.specs.Limits.{guideline_limit}
use Rattle.lines.specs.declared.Taken.{Taken}

-- bytes kept of a line: one more than it may have, so that a longer line is still seen to be too long
abbrev pub kept_limit : ℕ
kept_limit = guideline_limit + 1

-- begun are the bytes since the last newline: as many of them as are kept are the first n of the lent bytes
pub record Begun (begun kept : List ℕ) (n : ℕ) : Type 0 where
  pub room : kept_limit ≤ length kept
  pub count : n ≡ min (length begun) kept_limit
  pub same : take n kept ≡ take kept_limit begun

-- no byte more is kept
abbrev pub no_more : List ℕ → ℕ → Bool
no_more kept n = leb kept_limit n || leb (length kept) n

-- the lent bytes, and how many of them are kept, once these bytes have come: each goes behind the last, and all else is as it was
abbrev pub cells_after : List ℕ → ℕ → List ℕ → List ℕ
cells_after kept n [] = kept
cells_after kept n (b ∷ w) = cond (no_more kept n) (cells_after kept n w) (cells_after (set kept n b) (n + 1) w)

abbrev pub count_after : List ℕ → ℕ → List ℕ → ℕ
count_after kept n [] = n
count_after kept n (b ∷ w) = cond (no_more kept n) (count_after kept n w) (count_after (set kept n b) (n + 1) w)

-- one byte more
pub record Keeps (kept : List ℕ) (n b : ℕ) (kept' : List ℕ) (m : ℕ) : Type 0 where
  pub cells : kept' ≡ cells_after kept n (b ∷ [])
  pub count : m ≡ count_after kept n (b ∷ [])
  pub more : (begun : List ℕ) → Begun begun kept n → Begun (begun ++ (b ∷ [])) kept' m

-- what stands before the first newline (10), or all where there is none
abbrev pub before_newline : List ℕ → List ℕ
before_newline [] = []
before_newline (b ∷ w) = cond (eqb b 10) [] (b ∷ before_newline w)

abbrev pub has_newline : List ℕ → Bool
has_newline [] = false
has_newline (b ∷ w) = cond (eqb b 10) true (has_newline w)

-- the bytes of the chunk from a place on, up to a newline or the chunk's end, are those of the line that follow
pub record Takes (chunk : List ℕ) (from : ℕ) (kept : List ℕ) (n : ℕ) (kept' : List ℕ) (r : Taken) : Type 0 where
  pub cells : kept' ≡ cells_after kept n (before_newline (drop from chunk))
  pub count : r.n ≡ count_after kept n (before_newline (drop from chunk))
  pub more : (begun : List ℕ) → Begun begun kept n → Begun (begun ++ before_newline (drop from chunk)) kept' r.n
  pub ended : r.ended ≡ has_newline (drop from chunk)
  pub on : r.at ≡ from + length (before_newline (drop from chunk)) + cond r.ended 1 0
