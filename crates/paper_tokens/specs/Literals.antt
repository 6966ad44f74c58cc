-- The numbers that integer and float tokens write (9.1: "the usual conventions"; document 01: whole thousandths). Definitions only.
use Rattle.std.specs.Prelude.{ℕ, ◌+◌, ◌*◌, ◌-◌, cond, List, [], ◌∷◌, eqb, ℤ, pos, neg_ℤ}

-- the number that these digits write behind n
abbrev more_digits : ℕ → List ℕ → ℕ
more_digits n [] = n
more_digits n (b ∷ w) = more_digits (n * 10 + (b - 48)) w

abbrev digits : List ℕ → ℕ
digits w = more_digits 0 w

-- with its sign, a minus (45) or none
abbrev signed : (List ℕ → ℕ) → List ℕ → ℤ
signed f [] = pos (f [])
signed f (b ∷ w) = cond (eqb b 45) (neg_ℤ (pos (f w))) (pos (f (b ∷ w)))

abbrev pub whole : List ℕ → ℤ
whole w = signed digits w

-- what stands before the point (46), and behind it
abbrev before_point : List ℕ → List ℕ
before_point [] = []
before_point (b ∷ w) = cond (eqb b 46) [] (b ∷ before_point w)

abbrev pub behind_point : List ℕ → List ℕ
behind_point [] = []
behind_point (b ∷ w) = cond (eqb b 46) w (behind_point w)

-- as thousandths: three digits behind the point (a fourth is refused with 6), zeros where they are fewer
abbrev three : List ℕ → ℕ
three [] = 0
three (a ∷ []) = (a - 48) * 100
three (a ∷ b ∷ []) = (a - 48) * 100 + (b - 48) * 10
three (a ∷ b ∷ c ∷ w) = (a - 48) * 100 + (b - 48) * 10 + (c - 48)

abbrev unsigned_thousandths : List ℕ → ℕ
unsigned_thousandths w = digits (before_point w) * 1000 + three (behind_point w)

abbrev pub thousandths : List ℕ → ℤ
thousandths w = signed unsigned_thousandths w
