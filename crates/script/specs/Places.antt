-- The place behind a value, and the call that a line stands for: docs/REPLAY.md, "A script" and "A value". Definitions only.
use Rattle.std.specs.Prelude.{Bool, true, false, cond, List, [], ◌∷◌, ℕ, zero, suc, ◌+◌, ◌-◌, ◌*◌, eqb, ltb, get_or, length, drop}
use Rattle.paper_expressions.specs.Bytes.{bytes}
use Rattle.script.specs.declared.lexemes.Number.{Number}
use Rattle.script.specs.declared.calls.Call.TheVariants.{Load, Run, Time, Confirm, Add, Trigger, Row, Rows}
use Rattle.script.specs.declared.calls.Line.{Line}
use Rattle.script.specs.Lexemes.{nowhere, after_one, behind_word, digits_at, number_at, text_bytes, kept_long}

-- ---- values: the place behind one

-- the first of two places that is one
abbrev pub or_else : ℕ → ℕ → ℕ
or_else p q = cond (eqb p nowhere) q p

abbrev pub behind_truth : List ℕ → ℕ → ℕ
behind_truth s at = or_else (behind_word s at (bytes "0")) (behind_word s at (bytes "1"))

abbrev pub up-to : ℕ → Number → ℕ
up-to limit d = cond (ltb limit d.value) nowhere d.next

-- a number up to its limit, with a minus or without
abbrev pub behind_signed : List ℕ → ℕ → ℕ → ℕ
behind_signed s at limit = up-to limit (digits_at s (or_else (behind_word s at (bytes "-")) at))

abbrev pub behind_text : List ℕ → ℕ → ℕ
behind_text s at = at + 2 * length (text_bytes (drop at s))

-- by the letter b, behind which p is: unknown, a truth value, an integer, a real, a text
abbrev pub behind_letter : List ℕ → ℕ → ℕ → ℕ
behind_letter s p b =
    cond (eqb b 117) p
    (cond (eqb b 98) (behind_truth s p)
    (cond (eqb b 105) (behind_signed s p 2147483647)
    (cond (eqb b 114) (behind_signed s p 4611686018427387903)
    (cond (eqb b 116) (behind_text s p) nowhere))))

abbrev pub behind_element : List ℕ → ℕ → ℕ
behind_element s at = behind_letter s (after_one s at) (get_or s at 0)

-- of a list the elements that may follow, at most k, and the parenthesis that closes; a comma stands before each but the first of twenty
abbrev pub at_element : List ℕ → Bool → ℕ → ℕ
at_element s first at = cond first at (behind_word s at (bytes ","))

unfoldable pub behind_elements : List ℕ → ℕ → ℕ → ℕ
behind_elements s zero at = behind_word s at (bytes ")")
behind_elements s (suc k) at =
    cond (eqb (get_or s at 0) 41) (behind_word s at (bytes ")")) (behind_elements s k (behind_element s (at_element s (eqb k 19) at)))

abbrev pub behind_value : List ℕ → ℕ → ℕ
behind_value s at =
    cond (eqb (behind_word s at (bytes "l(")) nowhere) (behind_element s at) (behind_elements s 20 (behind_word s at (bytes "l(")))

-- ---- lines: the call, and the place behind its newline

abbrev pub newline : List ℕ
newline = 10 ∷ []

abbrev pub choose : Bool → Line → Line → Line
choose true a b = a
choose false a b = b

abbrev pub no_line : Line
no_line = record { call = Rows; next = nowhere }

-- where a word stands, the line behind it, else another
abbrev pub if_stands : ℕ → Line → Line → Line
if_stands p a b = choose (eqb p nowhere) b a

-- the text begins behind the number of its bytes, and a newline follows it
abbrev pub load_by : List ℕ → Number → Line
load_by s n =
    choose (ltb n.value (length s))
    (choose (ltb n.next (length s - n.value)) (record { call = Load n.next (n.next + n.value); next = behind_word s (n.next + n.value) newline }) no_line)
    no_line

abbrev pub load_line : List ℕ → ℕ → Line
load_line s at = load_by s (number_at s at 4294967295 10)

abbrev pub run_by : Number → Number → Line
run_by bound lent = record { call = Run bound.value lent.value; next = lent.next }

abbrev pub run_line : List ℕ → ℕ → Line
run_line s at = run_by (number_at s at 9223372036854775807 32) (number_at s (number_at s at 9223372036854775807 32).next 8192 10)

abbrev pub time_by : Number → Line
time_by n = record { call = Time n.value; next = n.next }

abbrev pub time_line : List ℕ → ℕ → Line
time_line s at = time_by (number_at s at 9223372036854775807 10)

abbrev pub confirm_by : Number → Line
confirm_by n = record { call = Confirm n.value; next = n.next }

abbrev pub confirm_line : List ℕ → ℕ → Line
confirm_line s at = confirm_by (number_at s at 4294967295 10)

abbrev pub add_by : List ℕ → Number → Line
add_by s n = record { call = Add n.value; next = behind_word s (behind_value s n.next) newline }

abbrev pub add_line : List ℕ → ℕ → Line
add_line s at = add_by s (number_at s at 4294967295 32)

-- a trigger's bytes; a minus is the empty one
abbrev pub trigger_line : List ℕ → ℕ → Line
trigger_line s at =
    if_stands (behind_word s at (45 ∷ newline)) (record { call = Trigger 0; next = behind_word s at (45 ∷ newline) })
    (record { call = Trigger (kept_long 0 (text_bytes (drop at s))); next = behind_word s (behind_text s at) newline })

abbrev pub row_by : Number → Number → Number → Line
row_by kind component property = record { call = Row kind.value component.value property.value; next = property.next }

abbrev pub row_behind : List ℕ → Number → Line
row_behind s kind = row_by kind (number_at s kind.next 4294967295 32) (number_at s (number_at s kind.next 4294967295 32).next 4294967295 10)

abbrev pub row_line : List ℕ → ℕ → Line
row_line s at = row_behind s (number_at s at 4294967295 32)

abbrev pub rows_line : List ℕ → ℕ → Line
rows_line s at = record { call = Rows; next = behind_word s at (115 ∷ newline) }

abbrev pub row_or_rows : List ℕ → ℕ → Line
row_or_rows s at = if_stands (behind_word s at (bytes " ")) (row_line s (behind_word s at (bytes " "))) (rows_line s at)

abbrev pub run_or_row : List ℕ → ℕ → Line
run_or_row s at = if_stands (behind_word s at (bytes "un ")) (run_line s (behind_word s at (bytes "un "))) (row_or_rows s (behind_word s at (bytes "ow")))

abbrev pub time_or_trigger : List ℕ → ℕ → Line
time_or_trigger s at = if_stands (behind_word s at (bytes "ime ")) (time_line s (behind_word s at (bytes "ime "))) (trigger_line s (behind_word s at (bytes "rigger ")))

-- by the first letter b of the line, behind which p is
abbrev pub line_by : List ℕ → ℕ → ℕ → Line
line_by s p b =
    choose (eqb b 97) (add_line s (behind_word s p (bytes "dd ")))
    (choose (eqb b 99) (confirm_line s (behind_word s p (bytes "onfirm ")))
    (choose (eqb b 108) (load_line s (behind_word s p (bytes "oad ")))
    (choose (eqb b 114) (run_or_row s p)
    (choose (eqb b 116) (time_or_trigger s p) no_line))))

abbrev pub line_of : List ℕ → ℕ → Line
line_of s at = line_by s (after_one s at) (get_or s at 0)
