-- The cells and bytes that a value stands in: docs/REPLAY.md, "A value", as the call that adds a value takes them. Definitions only.
use Rattle.std.specs.Prelude.{◌≡◌, Bool, true, false, cond, List, [], ◌∷◌, map, ℕ, zero, suc, ◌+◌, ◌*◌, eqb, ltb, ℤ, pos, neg_ℤ, get_or, set, length, drop}
use Rattle.paper_expressions.specs.Bytes.{bytes}
use Rattle.script.specs.declared.values.Element.{Element}
use Rattle.script.specs.declared.calls.Line.{Line}
use Rattle.script.specs.Lexemes.{nowhere, after_one, behind_word, digits_at, number_at, text_bytes, kept_long, kept_in}
use Rattle.script.specs.Places.{behind_element, at_element, newline, line_of}

-- ---- an element at a place: its tag, its number, and the bytes of its text

-- by its letter: 0 unknown, 1 true or false, 2 an integer, 3 a real, 4 a text
abbrev pub letter_tag : ℕ → ℕ
letter_tag b = cond (eqb b 98) 1 (cond (eqb b 105) 2 (cond (eqb b 114) 3 (cond (eqb b 116) 4 0)))

abbrev pub element_tag : List ℕ → ℕ → ℕ
element_tag s at = letter_tag (get_or s at 0)

-- 1 is true
abbrev pub truth_number : List ℕ → ℕ → ℤ
truth_number s at = cond (eqb (behind_word s at (bytes "0")) nowhere) (pos 1) (pos 0)

-- with its sign; what is beyond the greatest of a script ends nowhere
abbrev pub with_minus : Bool → ℕ → ℤ
with_minus minus n = cond (ltb 4611686018427387903 n) (pos 0) (cond minus (neg_ℤ (pos n)) (pos n))

abbrev pub signed_number : List ℕ → ℕ → ℤ
signed_number s at =
    cond (eqb (behind_word s at (bytes "-")) nowhere) (with_minus false (digits_at s at).value)
    (with_minus true (digits_at s (behind_word s at (bytes "-"))).value)

-- a text by its handle: 64 times the place of its bytes, and how many they are; those of the i-th element stand from 64 * i on
abbrev pub text_number : List ℕ → ℕ → ℕ → ℤ
text_number s at i = pos (64 * i * 64 + kept_long 0 (text_bytes (drop at s)))

abbrev pub letter_number : List ℕ → ℕ → ℕ → ℕ → ℤ
letter_number s p i b =
    cond (eqb b 98) (truth_number s p)
    (cond (eqb b 105) (signed_number s p)
    (cond (eqb b 114) (signed_number s p)
    (cond (eqb b 116) (text_number s p i) (pos 0))))

abbrev pub element_number : List ℕ → ℕ → ℕ → ℤ
element_number s at i = letter_number s (after_one s at) i (get_or s at 0)

-- the bytes after it
abbrev pub text_in : List ℕ → ℕ → ℕ → List ℕ → List ℕ
text_in s at i b = kept_in b (64 * i) 0 (text_bytes (drop at s))

abbrev pub element_bytes : List ℕ → ℕ → ℕ → List ℕ → List ℕ
element_bytes s at i b = cond (eqb (get_or s at 0) 116) (text_in s (after_one s at) i b) b

-- one that was read, with what is told of it
pub record Told (e : Element) (tag : ℕ) (number : ℤ) (next : ℕ) : Type 0 where
  pub tag_is : e.tag ≡ tag
  pub number_is : e.number ≡ number
  pub next_is : e.next ≡ next

-- ---- the elements of a value: where each begins

-- of a list, at most k that may follow
unfoldable pub places_from : List ℕ → ℕ → ℕ → List ℕ
places_from s zero at = []
places_from s (suc k) at =
    cond (eqb (get_or s at 0) 41) [] (at_element s (eqb k 19) at ∷ places_from s k (behind_element s (at_element s (eqb k 19) at)))

abbrev pub is_single : List ℕ → ℕ → Bool
is_single s at = eqb (behind_word s at (bytes "l(")) nowhere

abbrev pub list_places : List ℕ → ℕ → List ℕ
list_places s at = places_from s 20 (behind_word s at (bytes "l("))

abbrev pub value_places : List ℕ → ℕ → List ℕ
value_places s at = cond (is_single s at) (at ∷ []) (list_places s at)

-- 0 for one element, 1 more than the elements of a list
abbrev pub value_shape : List ℕ → ℕ → ℕ
value_shape s at = cond (is_single s at) 0 (length (list_places s at) + 1)

-- ---- the cells after it: the shape in the tag 0, the i-th element in the cells 1 + i

-- the cells from i on become these
unfoldable pub set_from : {A : Type 0} → List A → ℕ → List A → List A
set_from t i [] = t
set_from t i (x ∷ w) = set_from (set t i x) (i + 1) w

-- the numbers of the elements at these places, the first of which is the i-th
unfoldable pub numbers_of : List ℕ → ℕ → List ℕ → List ℤ
numbers_of s i [] = []
numbers_of s i (p ∷ w) = element_number s p i ∷ numbers_of s (i + 1) w

-- the bytes after them
unfoldable pub bytes_of : List ℕ → ℕ → List ℕ → List ℕ → List ℕ
bytes_of s i [] b = b
bytes_of s i (p ∷ w) b = bytes_of s (i + 1) w (element_bytes s p i b)

-- the cells and bytes after the elements at these places, with their shape
abbrev pub filled_tags : List ℕ → List ℕ → ℕ → List ℕ → List ℕ
filled_tags s places shape t = set (set_from t 1 (map (element_tag s) places)) 0 shape

abbrev pub filled_numbers : List ℕ → List ℕ → List ℤ → List ℤ
filled_numbers s places n = set_from n 1 (numbers_of s 0 places)

abbrev pub filled_bytes : List ℕ → List ℕ → List ℕ → List ℕ
filled_bytes s places b = bytes_of s 0 places b

abbrev pub value_tags : List ℕ → ℕ → List ℕ → List ℕ
value_tags s at t = filled_tags s (value_places s at) (value_shape s at) t

abbrev pub value_numbers : List ℕ → ℕ → List ℤ → List ℤ
value_numbers s at n = filled_numbers s (value_places s at) n

abbrev pub value_bytes : List ℕ → ℕ → List ℕ → List ℕ
value_bytes s at b = filled_bytes s (value_places s at) b

-- ---- what the code does to the cells: before it, and after it

-- the i-th element
pub record ElementPut (s : List ℕ) (at i : ℕ) (t : List ℕ) (n : List ℤ) (b : List ℕ) (t' : List ℕ) (n' : List ℤ) (b' : List ℕ) : Type 0 where
  pub tags_are : t' ≡ set t (1 + i) (element_tag s at)
  pub numbers_are : n' ≡ set n (1 + i) (element_number s at i)
  pub bytes_are : b' ≡ element_bytes s at i b

pub record Filled (s places : List ℕ) (shape : ℕ) (t : List ℕ) (n : List ℤ) (b : List ℕ) (t' : List ℕ) (n' : List ℤ) (b' : List ℕ) : Type 0 where
  pub tags_are : t' ≡ filled_tags s places shape t
  pub numbers_are : n' ≡ filled_numbers s places n
  pub bytes_are : b' ≡ filled_bytes s places b

-- the value at a place
abbrev pub ValuePut : List ℕ → ℕ → List ℕ → List ℤ → List ℕ → List ℕ → List ℤ → List ℕ → Type 0
ValuePut s at = Filled s (value_places s at) (value_shape s at)

-- ---- a line: the value of `add`, the bytes of `trigger`

-- where the value of a line stands that adds one
abbrev pub added_place : List ℕ → ℕ → ℕ
added_place s at = (number_at s (behind_word s (after_one s at) (bytes "dd ")) 4294967295 32).next

-- a minus is the empty trigger
abbrev pub trigger_in : List ℕ → ℕ → List ℕ → List ℕ
trigger_in s at b = cond (eqb (behind_word s at (45 ∷ newline)) nowhere) (text_in s at 0 b) b

abbrev pub time_or_trigger_in : List ℕ → ℕ → List ℕ → List ℕ
time_or_trigger_in s p b = cond (eqb (behind_word s p (bytes "ime ")) nowhere) (trigger_in s (behind_word s p (bytes "rigger ")) b) b

abbrev pub line_tags : List ℕ → ℕ → List ℕ → List ℕ
line_tags s at t = cond (eqb (get_or s at 0) 97) (value_tags s (added_place s at) t) t

abbrev pub line_numbers : List ℕ → ℕ → List ℤ → List ℤ
line_numbers s at n = cond (eqb (get_or s at 0) 97) (value_numbers s (added_place s at) n) n

abbrev pub line_bytes : List ℕ → ℕ → List ℕ → List ℕ
line_bytes s at b =
    cond (eqb (get_or s at 0) 97) (value_bytes s (added_place s at) b)
    (cond (eqb (get_or s at 0) 116) (time_or_trigger_in s (after_one s at) b) b)

pub record LineRead (s : List ℕ) (at : ℕ) (t : List ℕ) (n : List ℤ) (b : List ℕ) (t' : List ℕ) (n' : List ℤ) (b' : List ℕ) (r : Line) : Type 0 where
  pub line_is : r ≡ line_of s at
  pub tags_are : t' ≡ line_tags s at t
  pub numbers_are : n' ≡ line_numbers s at n
  pub bytes_are : b' ≡ line_bytes s at b
