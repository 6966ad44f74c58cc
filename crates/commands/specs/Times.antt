-- Numbers and amounts of time: 3600, 6 weeks. Definitions only.
use Rattle.std.specs.Prelude.{ℕ, ◌+◌, ◌-◌, ◌*◌, Bool, true, false, cond, ◌||◌, List, [], ◌∷◌, ltb, leb, length, drop}
use Rattle.typed_value.specs.Lexemes.{blankb, digitb, letterb, past, word_at}
use Rattle.commands.specs.declared.times.Numeral.{Numeral}
use Rattle.commands.specs.declared.times.Amount.{Amount}
use Rattle.commands.specs.declared.times.Measure.{Measure}
use Rattle.commands.specs.declared.times.Measure.TheVariants.{Seconds, Minutes, Hours, Days, Weeks, None}

-- one digit more; a number beyond every limit stands for all that are
abbrev pub with_digit : ℕ → ℕ → ℕ
with_digit n b = cond (ltb b 48) 0 (cond (ltb 1000000000 n) 100000000000 (n * 10 + (b - 48)))

-- the number of the digits from the first on, behind those that make n
abbrev pub digits_of_fn : ℕ → List ℕ → ℕ
digits_of_fn n [] = n
digits_of_fn n (b ∷ s) = cond (digitb b) (digits_of_fn (with_digit n b) s) n

-- the number that stands here
unfoldable pub number_of : List ℕ → ℕ → Numeral
number_of s at = record { value = digits_of_fn 0 (drop at s); next = past digitb s at }

abbrev pub “second” : List ℕ
“second” = 115 ∷ 101 ∷ 99 ∷ 111 ∷ 110 ∷ 100 ∷ []

abbrev pub “seconds” : List ℕ
“seconds” = 115 ∷ 101 ∷ 99 ∷ 111 ∷ 110 ∷ 100 ∷ 115 ∷ []

abbrev pub “minute” : List ℕ
“minute” = 109 ∷ 105 ∷ 110 ∷ 117 ∷ 116 ∷ 101 ∷ []

abbrev pub “minutes” : List ℕ
“minutes” = 109 ∷ 105 ∷ 110 ∷ 117 ∷ 116 ∷ 101 ∷ 115 ∷ []

abbrev pub “hour” : List ℕ
“hour” = 104 ∷ 111 ∷ 117 ∷ 114 ∷ []

abbrev pub “hours” : List ℕ
“hours” = 104 ∷ 111 ∷ 117 ∷ 114 ∷ 115 ∷ []

abbrev pub “day” : List ℕ
“day” = 100 ∷ 97 ∷ 121 ∷ []

abbrev pub “days” : List ℕ
“days” = 100 ∷ 97 ∷ 121 ∷ 115 ∷ []

abbrev pub “week” : List ℕ
“week” = 119 ∷ 101 ∷ 101 ∷ 107 ∷ []

abbrev pub “weeks” : List ℕ
“weeks” = 119 ∷ 101 ∷ 101 ∷ 107 ∷ 115 ∷ []

-- the unit that stands between two places; without one it is seconds
unfoldable pub measure_of : List ℕ → ℕ → ℕ → Measure
measure_of s from to =
    cond (leb to from) Seconds
    (cond (word_at s from to “second” || word_at s from to “seconds”) Seconds
    (cond (word_at s from to “minute” || word_at s from to “minutes”) Minutes
    (cond (word_at s from to “hour” || word_at s from to “hours”) Hours
    (cond (word_at s from to “day” || word_at s from to “days”) Days
    (cond (word_at s from to “week” || word_at s from to “weeks”) Weeks
    None)))))

abbrev pub is_none : Measure → Bool
is_none Seconds = false
is_none Minutes = false
is_none Hours = false
is_none Days = false
is_none Weeks = false
is_none None = true

-- so many of a unit, in seconds
abbrev pub seconds_of : ℕ → Measure → ℕ
seconds_of n Seconds = n
seconds_of n Minutes = n * 60
seconds_of n Hours = n * 3600
seconds_of n Days = n * 86400
seconds_of n Weeks = n * 604800
seconds_of n None = 0

abbrev pub no_amount : ℕ → Amount
no_amount at = record { there = false; seconds = 0; next = at }

-- a number and its unit, with nothing behind
abbrev pub measured : List ℕ → ℕ → ℕ → ℕ → Amount
measured s n p q =
    cond (is_none (measure_of s p q)) (no_amount p)
    (cond (ltb (past blankb s q) (length s)) (no_amount (past blankb s q)) (record { there = true; seconds = seconds_of n (measure_of s p q); next = past blankb s q }))

abbrev pub behind_number : List ℕ → ℕ → ℕ → Amount
behind_number s n p = measured s n p (past letterb s p)

-- the amount of time that stands here, and nothing behind it; or where it stops making sense
unfoldable pub amount_of : List ℕ → ℕ → Amount
amount_of s at =
    cond (leb (number_of s (past blankb s at)).next (past blankb s at)) (no_amount (past blankb s at))
    (behind_number s (number_of s (past blankb s at)).value (past blankb s (number_of s (past blankb s at)).next))
