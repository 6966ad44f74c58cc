-- The fields of the answer to a sheet: README, "Last season's sheets". Definitions only.
use Rattle.std.specs.Prelude.{◌≡◌, Bool, true, false, cond, List, [], ◌∷◌, ◌++◌, ℕ, zero, suc, ◌+◌, eqb, get_or, length}
use Rattle.std.proofs.Math.Option.{Option, none, some}
use Rattle.paper_expressions.specs.Bytes.{bytes}
use Rattle.paper_expressions.specs.Values as paper
use Rattle.paper_guideline.specs.Line.{digits_of, value_written}
use Rattle.parts.specs.Texts.{text_at_fn}
use Rattle.values.specs.declared.scalar.Scalar.{Scalar}
use Rattle.values.specs.declared.scalar.Scalar.TheVariants.{Unknown, Truth, Int, Real, Text}
use Rattle.values.specs.declared.value.Value.{Value}
use Rattle.values.specs.Meaning.{meaning_v}
use Rattle.item_rows.specs.ItemValue.{item_value}
use Rattle.season_answer.specs.Columns.{item_count}
use Rattle.separated.specs.Quotes.{between, as_written}
use Rattle.separated.specs.Records.{field_of}

-- a field and the separator behind it, and the last field of a line
abbrev pub field_written : ℕ → List ℕ → List ℕ
field_written separator w = as_written separator w ++ (separator ∷ [])

abbrev pub last_written : ℕ → List ℕ → List ℕ
last_written separator w = as_written separator w ++ (10 ∷ [])

-- a field with nothing in it, and one that is an empty text
abbrev pub nothing_written : ℕ → List ℕ
nothing_written separator = separator ∷ []

abbrev pub empty_written : ℕ → List ℕ
empty_written separator = between [] ++ (separator ∷ [])

-- the bytes that f gives to i and the k numbers behind it
unfoldable pub each : (ℕ → List ℕ) → ℕ → ℕ → List ℕ
each f i zero = []
each f i (suc k) = f i ++ each f (i + 1) k

abbrev pub if_label : Bool → List ℕ → List ℕ
if_label true w = w
if_label false w = []

-- what the column i is copied as: a field, where it is a label
abbrev pub label_written : List ℕ → List ℕ → List ℕ → ℕ → ℕ → List ℕ
label_written columns kept ends separator i = if_label (eqb (get_or columns i 0) 0) (field_written separator (field_of kept ends i))

abbrev pub labels_written : List ℕ → ℕ → List ℕ → List ℕ → ℕ → List ℕ
labels_written columns many kept ends separator = each (label_written columns kept ends separator) 0 many

abbrev pub no_label_written : List ℕ → ℕ → ℕ → List ℕ
no_label_written columns separator i = if_label (eqb (get_or columns i 0) 0) (nothing_written separator)

abbrev pub no_labels_written : List ℕ → ℕ → ℕ → List ℕ
no_labels_written columns many separator = each (no_label_written columns separator) 0 many

-- nothing in the place of each of n fields
abbrev pub blanks_written : ℕ → ℕ → List ℕ
blanks_written n separator = each (λ (d : ℕ). nothing_written separator) 0 n

-- an empty text
abbrev pub empty_scalar : paper.Scalar → Bool
empty_scalar paper.unknown = false
empty_scalar (paper.truth t) = false
empty_scalar (paper.integer z) = false
empty_scalar (paper.real z) = false
empty_scalar (paper.text w) = eqb (length w) 0

abbrev pub empty_text : paper.Value → Bool
empty_text (paper.one s) = empty_scalar s
empty_text (paper.sequence l) = false

-- and what the code has of it
abbrev pub no_bytes : Scalar → Bool
no_bytes Unknown = false
no_bytes (Truth t) = false
no_bytes (Int n) = false
no_bytes (Real n) = false
no_bytes (Text h) = eqb h.len 0

abbrev pub EmptyText : Value → Bool → Type 0
EmptyText v r = (texts : List ℕ) → r ≡ empty_text (meaning_v texts v)

-- a value as a field: an empty text stands between quotes
abbrev pub value_field : ℕ → paper.Value → List ℕ
value_field separator v = cond (empty_text v) (empty_written separator) (field_written separator (value_written v))

abbrev pub if_value : ℕ → Option paper.Value → List ℕ
if_value separator none = nothing_written separator
if_value separator (some v) = value_field separator v

-- the values of the data items in the order of the guideline, as the state has them
abbrev pub item_written : List ℕ → List ℕ → ℕ → ℕ → List ℕ
item_written texts state separator d = if_value separator (item_value texts state d)

abbrev pub values_written : List ℕ → List ℕ → List ℕ → ℕ → List ℕ
values_written plan texts state separator = each (item_written texts state separator) 0 (item_count plan)

-- the names of the first n data items, which the plan has by their handles
abbrev pub name_written : List ℕ → List ℕ → ℕ → ℕ → List ℕ
name_written plan texts separator d = field_written separator (text_at_fn texts (get_or plan (1256 + d) 0))

abbrev pub names_written : List ℕ → List ℕ → ℕ → ℕ → List ℕ
names_written plan texts n separator = each (name_written plan texts separator) 0 n

abbrev pub heading_written : List ℕ → List ℕ → ℕ → List ℕ → ℕ → List ℕ → List ℕ → ℕ → List ℕ
heading_written plan texts n columns many kept ends separator =
    labels_written columns many kept ends separator ++ names_written plan texts n separator
    ++ field_written separator (bytes "reached") ++ field_written separator (bytes "cycles") ++ last_written separator (bytes "ended")

-- how a run ended, by its number, behind the cycles that were enacted
abbrev pub ending_word : ℕ → List ℕ
ending_word e = cond (eqb e 1) (bytes "quiet") (cond (eqb e 2) (bytes "bounded") (bytes "exception"))

abbrev pub ended_written : ℕ → ℕ → ℕ → List ℕ
ended_written e n separator = digits_of n ++ (separator ∷ []) ++ last_written separator (ending_word e)

-- a refused value: its number, and the name of its data item by its handle
abbrev pub refusal : ℕ → List ℕ → ℕ → List ℕ
refusal number texts h = bytes "refused " ++ digits_of number ++ bytes ": " ++ text_at_fn texts h

abbrev pub refused_written : ℕ → List ℕ → ℕ → ℕ → List ℕ
refused_written number texts h separator = nothing_written separator ++ nothing_written separator ++ last_written separator (refusal number texts h)

abbrev pub unread_written : ℕ → List ℕ
unread_written separator = nothing_written separator ++ nothing_written separator ++ last_written separator (bytes "unread")

-- the actions that were in progress at some time, in the order of the guideline: class 2 in the plan, and a row in_progress_time
abbrev pub is_reached : List ℕ → List ℕ → ℕ → Bool
is_reached plan state t = cond (eqb (get_or plan (168 + t) 0) 2) (cond (eqb (get_or state (392 + t) 0) 0) false true) false

abbrev pub with_name : Bool → List ℕ → List ℕ → List ℕ
with_name false names w = names
with_name true names w = cond (eqb (length names) 0) w (names ++ bytes "; " ++ w)

unfoldable pub reached_names : List ℕ → List ℕ → List ℕ → ℕ → List ℕ
reached_names plan texts state zero = []
reached_names plan texts state (suc t) = with_name (is_reached plan state t) (reached_names plan texts state t) (text_at_fn texts (get_or plan (1192 + t) 0))

abbrev pub reached_written : List ℕ → List ℕ → List ℕ → ℕ → List ℕ
reached_written plan texts state separator = field_written separator (reached_names plan texts state 32)
