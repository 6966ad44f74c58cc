-- Blanks, letters and words of a line. Definitions only.
use Rattle.std.specs.Prelude.{ℕ, suc, ◌+◌, ◌-◌, Bool, true, false, cond, ◌&&◌, ◌||◌, List, [], ◌∷◌, eqb, ltb, leb, length, drop}
use Rattle.paper_expressions.proofs.Laws.Search.{sameb}
use Rattle.parts.specs.Texts.{cells}
use Rattle.typed_value.specs.declared.steps.Slip.{Slip}
use Rattle.typed_value.specs.declared.steps.Slip.TheVariants.{Fine, Missing, Bare, Unclosed, Digits, Decimals, Separator, Nested, Many, Behind}

-- a blank, a tab or a carriage return
abbrev pub blankb : ℕ → Bool
blankb b = eqb b 32 || (eqb b 9 || eqb b 13)

-- a digit
abbrev pub digitb : ℕ → Bool
digitb b = leb 48 b && leb b 57

-- a letter, a digit or an underscore: what a bare word is made of
abbrev pub letterb : ℕ → Bool
letterb b = (leb 97 b && leb b 122) || ((leb 65 b && leb b 90) || (digitb b || eqb b 95))

-- how many bytes from the first on pass the test
abbrev pub run : (ℕ → Bool) → List ℕ → ℕ
run p [] = 0
run p (b ∷ s) = cond (p b) (suc (run p s)) 0

-- the first place from here on whose byte does not pass, or the end
abbrev pub past : (ℕ → Bool) → List ℕ → ℕ → ℕ
past p s at = at + run p (drop at s)

-- the place behind one byte, if there is one
abbrev pub after_of : List ℕ → ℕ → ℕ
after_of s at = cond (ltb at (length s)) (at + 1) at

-- the word w stands between two places
abbrev pub word_at : List ℕ → ℕ → ℕ → List ℕ → Bool
word_at s from to w = leb from to && sameb (cells s from (to - from)) w

-- nothing is wrong
abbrev pub fine : Slip → Bool
fine Fine = true
fine Missing = false
fine Bare = false
fine Unclosed = false
fine Digits = false
fine Decimals = false
fine Separator = false
fine Nested = false
fine Many = false
fine Behind = false
