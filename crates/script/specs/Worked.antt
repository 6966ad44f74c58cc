-- Values as docs/REPLAY.md writes them, and the cells that each stands in: computed. One element stands behind a shape of 0, a list behind one more than its elements.
use Rattle.std.specs.Prelude.{◌≡◌, refl, List, [], ◌∷◌, ℕ, ℤ, pos, negsuc, take, replicate}
use Rattle.paper_expressions.specs.Bytes.{bytes}
use Rattle.script.specs.Lexemes.{behind_word, digits_value, digits_long, text_bytes, kept_long, kept_in}
use Rattle.script.specs.Places.{behind_elements, behind_value}
use Rattle.script.specs.Values.{places_from, set_from, numbers_of, bytes_of, value_tags, value_numbers, value_bytes}

-- the first tags and numbers of a value that is all of a text, over blank cells; and the place behind it
pub record Stands (text tags : List ℕ) (numbers : List ℤ) (size : ℕ) : Type 0 where
  pub tags_are : take 5 (value_tags text 0 (replicate 21 0)) ≡ tags
  pub numbers_are : take 5 (value_numbers text 0 (replicate 21 (pos 0))) ≡ numbers
  pub behind : behind_value text 0 ≡ size

pub unknown_stands : Stands (bytes "u") (0 ∷ 0 ∷ 0 ∷ 0 ∷ 0 ∷ []) (pos 0 ∷ pos 0 ∷ pos 0 ∷ pos 0 ∷ pos 0 ∷ []) 1
unfolding behind_word digits_value digits_long text_bytes kept_long kept_in behind_elements places_from set_from numbers_of bytes_of
unknown_stands = record { tags_are = refl; numbers_are = refl; behind = refl }

pub true_stands : Stands (bytes "b1") (0 ∷ 1 ∷ 0 ∷ 0 ∷ 0 ∷ []) (pos 0 ∷ pos 1 ∷ pos 0 ∷ pos 0 ∷ pos 0 ∷ []) 2
unfolding behind_word digits_value digits_long text_bytes kept_long kept_in behind_elements places_from set_from numbers_of bytes_of
true_stands = record { tags_are = refl; numbers_are = refl; behind = refl }

pub integer_stands : Stands (bytes "i-12") (0 ∷ 2 ∷ 0 ∷ 0 ∷ 0 ∷ []) (pos 0 ∷ negsuc 11 ∷ pos 0 ∷ pos 0 ∷ pos 0 ∷ []) 4
unfolding behind_word digits_value digits_long text_bytes kept_long kept_in behind_elements places_from set_from numbers_of bytes_of
integer_stands = record { tags_are = refl; numbers_are = refl; behind = refl }

pub real_stands : Stands (bytes "r-500") (0 ∷ 3 ∷ 0 ∷ 0 ∷ 0 ∷ []) (pos 0 ∷ negsuc 499 ∷ pos 0 ∷ pos 0 ∷ pos 0 ∷ []) 5
unfolding behind_word digits_value digits_long text_bytes kept_long kept_in behind_elements places_from set_from numbers_of bytes_of
real_stands = record { tags_are = refl; numbers_are = refl; behind = refl }

pub empty_text_stands : Stands (bytes "t") (0 ∷ 4 ∷ 0 ∷ 0 ∷ 0 ∷ []) (pos 0 ∷ pos 0 ∷ pos 0 ∷ pos 0 ∷ pos 0 ∷ []) 1
unfolding behind_word digits_value digits_long text_bytes kept_long kept_in behind_elements places_from set_from numbers_of bytes_of
empty_text_stands = record { tags_are = refl; numbers_are = refl; behind = refl }

-- the text of the third element stands from the byte 128 on: its handle is 64 * 128 and its one byte
pub list_stands : Stands (bytes "l(i1,u,t61)") (4 ∷ 2 ∷ 0 ∷ 4 ∷ 0 ∷ []) (pos 0 ∷ pos 1 ∷ pos 0 ∷ pos 8193 ∷ pos 0 ∷ []) 11
unfolding behind_word digits_value digits_long text_bytes kept_long kept_in behind_elements places_from set_from numbers_of bytes_of
list_stands = record { tags_are = refl; numbers_are = refl; behind = refl }

pub empty_list_stands : Stands (bytes "l()") (1 ∷ 0 ∷ 0 ∷ 0 ∷ 0 ∷ []) (pos 0 ∷ pos 0 ∷ pos 0 ∷ pos 0 ∷ pos 0 ∷ []) 3
unfolding behind_word digits_value digits_long text_bytes kept_long kept_in behind_elements places_from set_from numbers_of bytes_of
empty_list_stands = record { tags_are = refl; numbers_are = refl; behind = refl }

pub text_stands : take 2 (value_bytes (bytes "t6162") 0 (replicate 64 0)) ≡ 97 ∷ 98 ∷ []
unfolding behind_word digits_value digits_long text_bytes kept_long kept_in behind_elements places_from set_from numbers_of bytes_of
text_stands = refl
