-- The values that docs/REPLAY.md names are those that their cells and bytes stand for: what a script writes for `add` is what the call is given. Computed.
use Rattle.std.specs.Prelude.{◌≡◌, refl, List, [], ◌∷◌, true, ℕ, pos, negsuc, replicate}
use Rattle.std.proofs.Math.Option.{Option, some}
use Rattle.paper_expressions.specs.Bytes.{bytes}
use Rattle.paper_expressions.specs.Values.{unknown, truth, integer, real, text, Value, one, sequence}
use Rattle.value_given.specs.Given.{given}
use Rattle.script.specs.Lexemes.{behind_word, digits_value, digits_long, text_bytes, kept_long, kept_in}
use Rattle.script.specs.Places.{behind_elements}
use Rattle.script.specs.Values.{places_from, set_from, numbers_of, bytes_of, value_tags, value_numbers, value_bytes}

-- the value that all of a text writes, over blank cells
abbrev pub written : List ℕ → Option Value
written w = given (value_tags w 0 (replicate 21 0)) (value_numbers w 0 (replicate 21 (pos 0))) (value_bytes w 0 (replicate 1280 0))

pub integer_given : written (bytes "i-12") ≡ some (one (integer (negsuc 11)))
unfolding given behind_word digits_value digits_long text_bytes kept_long kept_in behind_elements places_from set_from numbers_of bytes_of
integer_given = refl

pub real_given : written (bytes "r-500") ≡ some (one (real (negsuc 499)))
unfolding given behind_word digits_value digits_long text_bytes kept_long kept_in behind_elements places_from set_from numbers_of bytes_of
real_given = refl

pub truth_given : written (bytes "b1") ≡ some (one (truth true))
unfolding given behind_word digits_value digits_long text_bytes kept_long kept_in behind_elements places_from set_from numbers_of bytes_of
truth_given = refl

pub empty_given : written (bytes "t") ≡ some (one (text []))
unfolding given behind_word digits_value digits_long text_bytes kept_long kept_in behind_elements places_from set_from numbers_of bytes_of
empty_given = refl

pub text_given : written (bytes "t6162") ≡ some (one (text (bytes "ab")))
unfolding given behind_word digits_value digits_long text_bytes kept_long kept_in behind_elements places_from set_from numbers_of bytes_of
text_given = refl

pub list_given : written (bytes "l(i1,u,t61)") ≡ some (sequence (integer (pos 1) ∷ unknown ∷ text (bytes "a") ∷ []))
unfolding given behind_word digits_value digits_long text_bytes kept_long kept_in behind_elements places_from set_from numbers_of bytes_of
list_given = refl
