-- A text between quotes: where it ends, and how much of it is handed on. Definitions only.
use Rattle.std.specs.Prelude.{ℕ, suc, ◌+◌, Bool, false, cond, List, [], ◌∷◌, eqb, ltb, drop}

-- as many bytes as a handle can tell: one that is longer stands for all that are beyond the limit
abbrev pub kept_of_fn : ℕ → ℕ
kept_of_fn n = cond (ltb n 63) n 63

-- the quote q, which stands behind the byte a: that is no backslash
abbrev pub closes_of : ℕ → ℕ → ℕ → Bool
closes_of q a b = cond (eqb a 92) false (eqb b q)

-- how many bytes stand before the quote that closes, from the first byte on, which stands behind the byte a
abbrev pub inside : ℕ → ℕ → List ℕ → ℕ
inside q a [] = 0
inside q a (b ∷ s) = cond (closes_of q a b) 0 (suc (inside q b s))

-- the place of the quote that closes a text from here on, behind its opening quote; or the end
unfoldable pub close_of : ℕ → List ℕ → ℕ → ℕ
close_of q s from = from + inside q q (drop from s)
