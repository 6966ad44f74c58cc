-- Worked: what some lines stand for, and the cells of a few values, by computing.
use Rattle.std.specs.Prelude.{◌≡◌, refl, true, [], ◌∷◌, pos, negsuc, take}
use Rattle.paper_expressions.specs.Values.{unknown, truth, integer, real, text, Value, one, sequence}
use Rattle.typed_value.specs.Numerals.{beyond}
use Rattle.typed_value.specs.Texts.{close_of}
use Rattle.typed_value.specs.Elements.{found, wrong, real_at, number_at, text_from, word_from, other_at, element_at, “yes”, “true”, “unknown”}
use Rattle.typed_value.specs.Values.{elements_at, value_at, typed}
use Rattle.typed_value.specs.Cells.{spread, tags_with, numbers_with, texts_with, tags_of, numbers_of_fn, bytes_of}
use Rattle.typed_value.specs.declared.steps.Slip.TheVariants.{Bare, Decimals, Behind}

-- 12, with blanks around it; -3; 2.5
pub reads_12 : typed (32 ∷ 49 ∷ 50 ∷ 32 ∷ []) 0 4 ≡ found (one (integer (pos 12))) 3
unfolding typed value_at element_at number_at
reads_12 = refl

pub reads_minus_3 : typed (45 ∷ 51 ∷ []) 0 2 ≡ found (one (integer (negsuc 2))) 2
unfolding typed value_at element_at number_at
reads_minus_3 = refl

pub reads-2·5 : typed (50 ∷ 46 ∷ 53 ∷ []) 0 3 ≡ found (one (real (pos 2500))) 3
unfolding typed value_at element_at number_at real_at
reads-2·5 = refl

-- 99999999999 is beyond every limit; 2.0625 has a digit too many; 2 5 has something behind the value
pub reads_beyond : typed (57 ∷ 57 ∷ 57 ∷ 57 ∷ 57 ∷ 57 ∷ 57 ∷ 57 ∷ 57 ∷ 57 ∷ 57 ∷ []) 0 11 ≡ found (one (integer beyond)) 11
unfolding typed value_at element_at number_at
reads_beyond = refl

pub reads_decimals : typed (50 ∷ 46 ∷ 48 ∷ 54 ∷ 50 ∷ 53 ∷ []) 0 6 ≡ wrong Decimals 1
unfolding typed value_at element_at number_at real_at
reads_decimals = refl

pub reads_behind : typed (50 ∷ 32 ∷ 53 ∷ []) 0 3 ≡ wrong Behind 2
unfolding typed value_at element_at number_at
reads_behind = refl

-- "a\"" is closed by its last quote; yes, true and unknown; ye, which is none
pub reads_text : typed (34 ∷ 97 ∷ 92 ∷ 34 ∷ 34 ∷ []) 0 5 ≡ found (one (text (97 ∷ 92 ∷ 34 ∷ []))) 5
unfolding typed value_at element_at text_from close_of
reads_text = refl

pub reads_yes : typed “yes” 0 3 ≡ found (one (text “yes”)) 3
unfolding typed value_at element_at other_at word_from
reads_yes = refl

pub reads_true : typed “true” 0 4 ≡ found (one (truth true)) 4
unfolding typed value_at element_at other_at word_from
reads_true = refl

pub reads_unknown : typed “unknown” 0 7 ≡ found (one unknown) 7
unfolding typed value_at element_at other_at word_from
reads_unknown = refl

pub reads_word : typed “yes” 0 2 ≡ wrong Bare 0
unfolding typed value_at element_at other_at word_from
reads_word = refl

-- [12, 3, 15]
abbrev pub twelve_three_fifteen : Value
twelve_three_fifteen = sequence (integer (pos 12) ∷ integer (pos 3) ∷ integer (pos 15) ∷ [])

pub reads_list : typed (91 ∷ 49 ∷ 50 ∷ 44 ∷ 32 ∷ 51 ∷ 44 ∷ 32 ∷ 49 ∷ 53 ∷ 93 ∷ []) 0 11 ≡ found twelve_three_fifteen 11
unfolding typed value_at elements_at element_at number_at
reads_list = refl

pub list_tags : take 5 (tags_of twelve_three_fifteen) ≡ (4 ∷ 2 ∷ 2 ∷ 2 ∷ 0 ∷ [])
unfolding tags_with
list_tags = refl

pub list_numbers : take 5 (numbers_of_fn twelve_three_fifteen) ≡ (pos 0 ∷ pos 12 ∷ pos 3 ∷ pos 15 ∷ pos 0 ∷ [])
unfolding numbers_with
list_numbers = refl

-- yes, as the one value: its handle is that of 3 bytes from the place 0 on
pub text_tags : take 3 (tags_of (one (text “yes”))) ≡ (0 ∷ 4 ∷ 0 ∷ [])
unfolding tags_with
text_tags = refl

pub text_numbers : take 3 (numbers_of_fn (one (text “yes”))) ≡ (pos 0 ∷ pos 3 ∷ pos 0 ∷ [])
unfolding numbers_with
text_numbers = refl

pub text_bytes : take 4 (bytes_of (one (text “yes”))) ≡ (121 ∷ 101 ∷ 115 ∷ 0 ∷ [])
unfolding texts_with spread
text_bytes = refl
