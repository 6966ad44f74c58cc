-- "The kind of each byte from 0 to 255 is settled by ranges" (document 01, Reading the text). Definitions only.
use Rattle.std.specs.Prelude.{ℕ, Bool, cond, ◌&&◌, ◌||◌, eqb, leb}

abbrev within : ℕ → ℕ → ℕ → Bool
within low high b = leb low b && leb b high

-- the kinds, by number; `other` is a sign that no form of section 2 tells apart (`;`, `(`, `=`, ..), or a byte that stands only in quotes and comments
abbrev pub other : ℕ
other = 0

abbrev pub letter : ℕ
letter = 1

-- the letters d, e, D and E, which may begin an exponent
abbrev pub power : ℕ
power = 2

abbrev pub digit : ℕ
digit = 3

abbrev pub minus : ℕ
minus = 4

abbrev pub point : ℕ
point = 5

abbrev pub quote : ℕ
quote = 6

abbrev pub backslash : ℕ
backslash = 7

abbrev pub blank : ℕ
blank = 8

abbrev pub slash : ℕ
slash = 9

abbrev pub star : ℕ
star = 10

-- a byte over 127, which no text has that is read at all (refusal 1)
abbrev pub high : ℕ
high = 11

abbrev pub double_quote : ℕ
double_quote = 12

unfoldable pub kind_of : ℕ → ℕ
kind_of b =
    -- D E and d e; the other letters and the underscore; 0 to 9
    cond (within 68 69 b || within 100 101 b) power
    (cond (within 65 90 b || eqb b 95 || within 97 122 b) letter
    (cond (within 48 57 b) digit
    -- - . ' " \
    (cond (eqb b 45) minus
    (cond (eqb b 46) point
    (cond (eqb b 39) quote
    (cond (eqb b 34) double_quote
    (cond (eqb b 92) backslash
    -- tab and newline, carriage return, space; / and *
    (cond (within 9 10 b || eqb b 13 || eqb b 32) blank
    (cond (eqb b 47) slash
    (cond (eqb b 42) star
    (cond (leb 128 b) high other)))))))))))
