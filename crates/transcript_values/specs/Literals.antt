-- Values as replay writes them: docs/REPLAY.md, "A value"; and where the next line goes in a buffer. Definitions only.
use Rattle.std.specs.Prelude.{true, false, cond, List, [], ◌∷◌, ◌++◌, ℕ, ◌+◌, ◌/◌, ◌%◌, ltb}
use Rattle.paper_expressions.specs.Bytes.{bytes}
use Rattle.paper_expressions.specs.Values.{Scalar, unknown, truth, integer, real, text, Value, one, sequence}
use Rattle.paper_guideline.specs.Line.{digits_of, with_sign}

-- hexadecimal digits are 0 to 9 and a to f
abbrev pub hex_digit : ℕ → ℕ
hex_digit n = cond (ltb n 10) (48 + n) (87 + n)

abbrev pub in_hex : ℕ → List ℕ
in_hex b = hex_digit (b / 16) ∷ hex_digit (b % 16) ∷ []

unfoldable pub all_hex : List ℕ → List ℕ
all_hex [] = []
all_hex (b ∷ w) = in_hex b ++ all_hex w

-- a letter for the kind, then digits; of a real, those of its thousandths
abbrev pub scalar_literal : Scalar → List ℕ
scalar_literal unknown = bytes "u"
scalar_literal (truth true) = bytes "b1"
scalar_literal (truth false) = bytes "b0"
scalar_literal (integer z) = bytes "i" ++ with_sign digits_of z
scalar_literal (real z) = bytes "r" ++ with_sign digits_of z
scalar_literal (text s) = bytes "t" ++ all_hex s

-- the elements behind the first, and the parenthesis that closes
abbrev pub more_literal : List Scalar → List ℕ
more_literal [] = bytes ")"
more_literal (s ∷ l) = bytes "," ++ scalar_literal s ++ more_literal l

abbrev pub value_literal : Value → List ℕ
value_literal (one s) = scalar_literal s
value_literal (sequence []) = bytes "l()"
value_literal (sequence (s ∷ l)) = bytes "l(" ++ scalar_literal s ++ more_literal l

-- a number behind a blank
abbrev pub next_number : ℕ → List ℕ
next_number n = bytes " " ++ digits_of n

-- Where the next line goes in a buffer of so many bytes: to the front, if more than a quarter of it is full, and is written then.
abbrev pub room_at : ℕ → ℕ → ℕ
room_at size o = cond (ltb (size / 4) o) 0 o
