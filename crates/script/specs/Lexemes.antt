-- The words, numbers and texts of a script: docs/REPLAY.md. What stands at a place, and the place behind it. Definitions only.
use Rattle.std.specs.Prelude.{Bool, true, false, cond, Option, Some, None, List, [], ◌∷◌, ℕ, suc, ◌+◌, ◌-◌, ◌*◌, eqb, ltb, leb, get_or, set, length, drop, ◌≡◌}
use Rattle.script.specs.declared.lexemes.Number.{Number}
use Rattle.script.specs.declared.lexemes.Text.{Text}

-- no script has this place; what is not there ends here
abbrev pub nowhere : ℕ
nowhere = 18446744073709551615

-- the place behind one byte
abbrev pub after_one : List ℕ → ℕ → ℕ
after_one s at = cond (ltb at (length s)) (at + 1) nowhere

-- the place behind a word that stands here
unfoldable pub behind_word : List ℕ → ℕ → List ℕ → ℕ
behind_word s at [] = at
behind_word s at (b ∷ w) = cond (ltb at (length s)) (cond (eqb (get_or s at 0) b) (behind_word s (at + 1) w) nowhere) nowhere

-- ---- numbers: the longest run of digits, one at least; beyond 9,223,372,036,854,775,807, which no number of a script passes, one more is as good as all

abbrev pub is_digit : ℕ → Bool
is_digit b = cond (ltb b 48) false (leb b 57)

abbrev pub with-digit : ℕ → ℕ → ℕ
with-digit n b = cond (ltb b 48) n (cond (ltb 922337203685477580 n) 9223372036854775808 (n * 10 + (b - 48)))

-- the number that the digits at the front write, behind n
unfoldable pub digits_value : ℕ → List ℕ → ℕ
digits_value n [] = n
digits_value n (b ∷ w) = cond (is_digit b) (digits_value (with-digit n b) w) n

-- how many there are
unfoldable pub digits_long : List ℕ → ℕ
digits_long [] = 0
digits_long (b ∷ w) = cond (is_digit b) (suc (digits_long w)) 0

abbrev pub ended_at : ℕ → ℕ → ℕ → Number
ended_at n p at = record { value = n; next = cond (eqb p at) nowhere p }

abbrev pub digits_at : List ℕ → ℕ → Number
digits_at s at = ended_at (digits_value 0 (drop at s)) (at + digits_long (drop at s)) at

abbrev pub choose : Bool → Number → Number → Number
choose true a b = a
choose false a b = b

abbrev pub no_number : Number
no_number = record { value = 0; next = nowhere }

-- a number up to its limit, and behind it the byte `last`
abbrev pub limited : List ℕ → ℕ → ℕ → Number → Number
limited s limit last d =
    choose (ltb limit d.value) no_number
    (choose (eqb (get_or s d.next 0) last) (record { value = d.value; next = after_one s d.next }) no_number)

abbrev pub number_at : List ℕ → ℕ → ℕ → ℕ → Number
number_at s at limit last = limited s limit last (digits_at s at)

-- ---- texts: two hexadecimal digits for each byte, 0 to 9, a to f, A to F

abbrev pub hex_value : ℕ → Option ℕ
hex_value b =
    cond (ltb b 48) None
    (cond (ltb b 58) (Some (b - 48))
    (cond (ltb b 65) None
    (cond (ltb b 71) (Some (b - 55))
    (cond (ltb b 97) None
    (cond (ltb b 103) (Some (b - 87)) None)))))

abbrev pub pair_of : Option ℕ → Option ℕ → Option ℕ
pair_of None low = None
pair_of (Some high) None = None
pair_of (Some high) (Some low) = Some (high * 16 + low)

abbrev pub pair_value : ℕ → ℕ → Option ℕ
pair_value a b = pair_of (hex_value a) (hex_value b)

abbrev pub further : Option ℕ → List ℕ → List ℕ
further None w = []
further (Some b) w = b ∷ w

-- the bytes that the pairs at the front stand for
unfoldable pub text_bytes : List ℕ → List ℕ
text_bytes [] = []
text_bytes (a ∷ []) = []
text_bytes (a ∷ b ∷ w) = further (pair_value a b) (text_bytes w)

-- 63 of them are kept: more than any text within the limits has
abbrev pub one_longer : ℕ → ℕ
one_longer n = cond (ltb n 63) (n + 1) n

-- how many are kept, of which n stand already
unfoldable pub kept_long : ℕ → List ℕ → ℕ
kept_long n [] = n
kept_long n (b ∷ w) = kept_long (one_longer n) w

-- the cells from `from` on with these bytes behind n of them; the last place takes all that are too many
unfoldable pub kept_in : List ℕ → ℕ → ℕ → List ℕ → List ℕ
kept_in cells from n [] = cells
kept_in cells from n (b ∷ w) = kept_in (set cells (from + n) b) from (one_longer n) w

-- the text whose digits stand here: how many of its bytes are kept, the place behind it, and the cells after it
pub record TextRead (s : List ℕ) (at : ℕ) (cells : List ℕ) (from : ℕ) (cells' : List ℕ) (r : Text) : Type 0 where
  pub kept : r.len ≡ kept_long 0 (text_bytes (drop at s))
  pub behind : r.next ≡ at + 2 * length (text_bytes (drop at s))
  pub stored : cells' ≡ kept_in cells from 0 (text_bytes (drop at s))
