-- An element of a value as it is typed: 12, -3, 2.5, "north field", yes, no, true, false, unknown. Definitions only.
use Rattle.std.specs.Prelude.{ℕ, ◌+◌, ◌*◌, ◌-◌, Bool, true, false, cond, List, [], ◌∷◌, eqb, ltb, leb, drop, get_or}
use Rattle.paper_expressions.specs.Values.{Scalar, unknown, truth, integer, real, text}
use Rattle.paper_guideline.specs.Limits.{decimal_limit}
use Rattle.parts.specs.Texts.{cells}
use Rattle.typed_value.specs.Lexemes.{digitb, letterb, past, after_of, word_at}
use Rattle.typed_value.specs.Numerals.{decimal, thousandths_of, signed_of}
use Rattle.typed_value.specs.Texts.{close_of, kept_of_fn}
use Rattle.typed_value.specs.declared.steps.Slip.{Slip}
use Rattle.typed_value.specs.declared.steps.Slip.TheVariants.{Missing, Bare, Unclosed, Digits, Decimals, Nested}

-- what was read, and the place behind it; or what is wrong, and at which place
pub data Found (A : Type 0) : Type 0 where
  found : A → ℕ → Found A
  wrong : Slip → ℕ → Found A

-- ---- numbers

-- a real whose point stands at p, behind digits that stand for n; the digits behind it stand from one place up to another
abbrev pub real_to : Bool → List ℕ → ℕ → ℕ → ℕ → ℕ → Found Scalar
real_to minus s p n from to =
    cond (leb to from) (wrong Digits from)
    (cond (ltb decimal_limit (to - from)) (wrong Decimals p)
    (found (real (signed_of minus (n * 1000 + thousandths_of (decimal 0 (drop from s)) (to - from)))) to))

unfoldable pub real_at : Bool → List ℕ → ℕ → ℕ → Found Scalar
real_at minus s p n = real_to minus s p n (after_of s p) (past digitb s (after_of s p))

-- a number whose first digits stand from one place up to another
abbrev pub number_to : Bool → List ℕ → ℕ → ℕ → Found Scalar
number_to minus s from to =
    cond (leb to from) (wrong Digits from)
    (cond (eqb (get_or s to 0) 46) (real_at minus s to (decimal 0 (drop from s)))
    (found (integer (signed_of minus (decimal 0 (drop from s)))) to))

unfoldable pub number_at : Bool → List ℕ → ℕ → Found Scalar
number_at minus s at = number_to minus s at (past digitb s at)

-- ---- a text, behind its opening quote

unfoldable pub text_from : List ℕ → ℕ → Found Scalar
text_from s from = cond (eqb (get_or s (close_of 34 s from) 0) 34) (found (text (cells s from (kept_of_fn (close_of 34 s from - from)))) (after_of s (close_of 34 s from))) (wrong Unclosed from)

-- ---- words

abbrev pub “unknown” : List ℕ
“unknown” = 117 ∷ 110 ∷ 107 ∷ 110 ∷ 111 ∷ 119 ∷ 110 ∷ []

abbrev pub “true” : List ℕ
“true” = 116 ∷ 114 ∷ 117 ∷ 101 ∷ []

abbrev pub “false” : List ℕ
“false” = 102 ∷ 97 ∷ 108 ∷ 115 ∷ 101 ∷ []

abbrev pub “yes” : List ℕ
“yes” = 121 ∷ 101 ∷ 115 ∷ []

abbrev pub “no” : List ℕ
“no” = 110 ∷ 111 ∷ []

-- the word that stands between two places: yes and no are texts, and any other is none
abbrev pub word_to : List ℕ → ℕ → ℕ → Found Scalar
word_to s from to =
    cond (word_at s from to “unknown”) (found unknown to)
    (cond (word_at s from to “true”) (found (truth true) to)
    (cond (word_at s from to “false”) (found (truth false) to)
    (cond (word_at s from to “yes”) (found (text “yes”) to)
    (cond (word_at s from to “no”) (found (text “no”) to)
    (wrong Bare from)))))

unfoldable pub word_from : List ℕ → ℕ → Found Scalar
word_from s at = word_to s at (past letterb s at)

-- ---- an element, by its first byte

-- what is wrong with a byte that begins none: an opening bracket, a point, a single quote
abbrev pub slip_of : ℕ → Slip
slip_of b = cond (eqb b 91) Nested (cond (eqb b 46) Digits (cond (eqb b 39) Bare Missing))

unfoldable pub other_at : List ℕ → ℕ → Found Scalar
other_at s at = cond (letterb (get_or s at 0)) (word_from s at) (wrong (slip_of (get_or s at 0)) at)

-- a double quote, a minus, a digit
unfoldable pub element_at : List ℕ → ℕ → Found Scalar
element_at s at =
    cond (eqb (get_or s at 0) 34) (text_from s (after_of s at))
    (cond (eqb (get_or s at 0) 45) (number_at true s (after_of s at))
    (cond (digitb (get_or s at 0)) (number_at false s at)
    (other_at s at)))
