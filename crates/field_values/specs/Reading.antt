-- How a field of a sheet is read, by the declared type of its data item. Definitions only.
use Rattle.std.specs.Prelude.{◌≡◌, Bool, true, false, cond, ◌||◌, List, ℕ, eqb, ltb, leb, ℤ, length}
use Rattle.paper_expressions.specs.Values.{unknown, text, Value, one}
use Rattle.typed_value.specs.Lexemes.{word_at}
use Rattle.typed_value.specs.Elements.{Found, found, wrong, “unknown”}
use Rattle.typed_value.specs.Values.{typed}
use Rattle.typed_value.specs.Cells.{kept_text, tags_with, numbers_with, texts_with}
use Rattle.typed_value.specs.declared.steps.Slip.{Slip}
use Rattle.typed_value.specs.declared.steps.Slip.TheVariants.{Fine, Missing, Bare, Unclosed, Digits, Decimals, Separator, Nested, Many, Behind}

-- the declared types by their numbers in the plan: text 1, integer 2, boolean 3, datetime 4, date 5, time 6, real 7, setof_text 8, setof_integer 9,
-- setof_real 10. Values of text and boolean are texts (4.3)
abbrev pub text_type : ℕ → Bool
text_type d = eqb d 1 || eqb d 3

-- numbers with digits behind the point, and lists of these
abbrev pub real_type : ℕ → Bool
real_type d = cond (ltb d 4) false (cond (ltb d 8) true (eqb d 10))

abbrev pub list-type : ℕ → Bool
list-type d = cond (ltb d 8) false (leb d 10)

-- beyond a limit (6), if it would be of the type, else not of the type (9)
abbrev pub limit_if : Bool → ℕ
limit_if t = cond t 6 9

abbrev pub refusal_by : Slip → ℕ → ℕ
refusal_by Decimals d = limit_if (real_type d)
refusal_by Many d = limit_if (list-type d)
refusal_by Fine d = 9
refusal_by Missing d = 9
refusal_by Bare d = 9
refusal_by Unclosed d = 9
refusal_by Digits d = 9
refusal_by Separator d = 9
refusal_by Nested d = 9
refusal_by Behind d = 9

-- the value that a field stands for as it is: the text, but for the word unknown
abbrev pub field_text : List ℕ → Value
field_text field = cond (word_at field 0 (length field) “unknown”) (one unknown) (one (text (kept_text field)))

abbrev pub field_by : Bool → List ℕ → Found Value
field_by true field = found (field_text field) (length field)
field_by false field = typed field 0 (length field)

-- a field for a text is a text as it stands, and never wrong; any other is what is typed
unfoldable pub field_as : ℕ → List ℕ → Found Value
field_as d field = field_by (text_type d) field

-- a value stands in the cells and bytes, and is not refused; what is wrong is refused by its number
pub data FieldRead (d : ℕ) (t : List ℕ) (n : List ℤ) (b t' : List ℕ) (n' : List ℤ) (b' : List ℕ) : ℕ → Found Value → Type 0 where
  field_value : {v : Value} {p : ℕ} → t' ≡ tags_with v t → n' ≡ numbers_with v n → b' ≡ texts_with v b → FieldRead d t n b t' n' b' 0 (found v p)
  field_wrong : {k : Slip} {p : ℕ} → FieldRead d t n b t' n' b' (refusal_by k d) (wrong k p)
