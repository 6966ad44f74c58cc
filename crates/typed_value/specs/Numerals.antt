-- Digits that are typed, and the numbers that they stand for. Definitions only.
use Rattle.std.specs.Prelude.{ℕ, ◌+◌, ◌*◌, ◌-◌, Bool, cond, List, [], ◌∷◌, eqb, ltb, ℤ, pos, neg_ℤ}
use Rattle.paper_expressions.specs.Limits.{real_limit}
use Rattle.typed_value.specs.Lexemes.{digitb}

-- the number that the digits from the first byte on stand for, behind those that stand for n
abbrev pub decimal : ℕ → List ℕ → ℕ
decimal n [] = n
decimal n (b ∷ s) = cond (digitb b) (decimal (n * 10 + (b - 48)) s) n

-- the thousandths that n is, as so many digits behind the point
abbrev pub thousandths_of : ℕ → ℕ → ℕ
thousandths_of n count = cond (eqb count 1) (n * 100) (cond (eqb count 2) (n * 10) n)

-- one number beyond every limit is handed on for all that are
abbrev pub beyond : ℤ
beyond = pos 2294967295

-- a number with its sign
abbrev pub signed_of : Bool → ℕ → ℤ
signed_of minus n = cond (ltb real_limit n) beyond (cond minus (neg_ℤ (pos n)) (pos n))

-- ---- how the code counts: from one number on, all are one

abbrev pub kept_number : ℕ → ℕ
kept_number n = cond (ltb 2000000009 n) 10000000000 n

abbrev pub with_digit : ℕ → ℕ → ℕ
with_digit n b = cond (ltb 200000000 n) 10000000000 (n * 10 + (b - 48))
