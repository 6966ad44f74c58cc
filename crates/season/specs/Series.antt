-- What the fields of a line do to the tables: by which public calls they change. Definitions only.
use Rattle.std.specs.Prelude.{◌≡◌, Bool, true, false, cond, ◌||◌, List, ℕ, ◌+◌, ◌-◌, ◌<◌, ◌≤◌, ℤ, pos, eqb, get_or, length, replicate}
use Rattle.paper_expressions.specs.Values.{Value}
use Rattle.replying.specs.declared.Reply.{Reply}
use Rattle.replying.specs.declared.Reply.TheVariants.{Done, Refused}
use Rattle.adding.specs.Add.{Adds}
use Rattle.separated.specs.Records.{field_of}
use Rattle.typed_value.specs.Elements.{Found, found, wrong}
use Rattle.typed_value.specs.Cells.{tags_with, numbers_with, texts_with}
use Rattle.typed_value.specs.declared.steps.Slip.{Slip}
use Rattle.field_values.specs.Reading.{refusal_by, field_as}
use Rattle.asked.specs.Asked.{asked}

-- the data item of the column i, which has its number and one; 64, which is none, for a label
abbrev pub item_of : List ℕ → ℕ → ℕ
item_of columns i = cond (eqb (get_or columns (0 + i) 0) 0) 64 (get_or columns (0 + i) 0 - 1)

-- the number of a refusal, or 0
abbrev pub number_of : Reply → ℕ
number_of Done = 0
number_of (Refused n) = n

-- the call of add with these cells: b the text bytes, f the plan, s the state
abbrev pub CellsAdded : ℕ → List ℕ → List ℤ → List ℕ → List ℕ → List ℕ → List ℕ → List ℕ → List ℕ → ℕ → Type 0
CellsAdded item t n v b f s b' s' r = (q : Reply) × Adds item t n v b f s b' s' q × (r ≡ number_of q)

-- what was read of a field for an item of the type d: refused as it is wrong; or what the call of add replies to the cells t and n and the bytes v, with the value put to them
pub data ValueAdded (item d : ℕ) (t : List ℕ) (n : List ℤ) (v b f s : List ℕ) : Found Value → List ℕ → List ℕ → ℕ → Type 0 where
  not_read : {k : Slip} {p : ℕ} → ValueAdded item d t n v b f s (wrong k p) b s (refusal_by k d)
  called : {w : Value} {p : ℕ} {b' s' : List ℕ} {r : ℕ} → CellsAdded item (tags_with w t) (numbers_with w n) (texts_with w v) b f s b' s' r → ValueAdded item d t n v b f s (found w p) b' s' r

-- a field as the value of a data item: nothing, if it is empty; else the value that it stands for, in cells that were blank
pub data FieldAdded (item : ℕ) (field b f s : List ℕ) : List ℕ → List ℕ → ℕ → Type 0 where
  no_field : length field ≡ 0 → FieldAdded item field b f s b s 0
  a_field : {b' s' : List ℕ} {r : ℕ} → (length field ≡ 0 → ⊥)
      → ValueAdded item (get_or f (1320 + item) 0) (replicate 21 0) (replicate 21 (pos 0)) (replicate 1280 0) b f s (field_as (get_or f (1320 + item) 0) field) b' s' r → FieldAdded item field b f s b' s' r

-- the field i, where it answers an enquiry: whether its value was taken. A label, an item that no enquiry waits for and an empty field are passed over
pub data Answered (columns kept ends f : List ℕ) (i : ℕ) (b s : List ℕ) : List ℕ → List ℕ → Bool → Type 0 where
  of_label : 64 ≤ item_of columns i → Answered columns kept ends f i b s b s false
  not_asked : item_of columns i < 64 → asked f s (item_of columns i) ≡ false → Answered columns kept ends f i b s b s false
  empty : item_of columns i < 64 → asked f s (item_of columns i) ≡ true → length (field_of kept ends i) ≡ 0 → Answered columns kept ends f i b s b s false
  given : {b' s' : List ℕ} {r : ℕ} → item_of columns i < 64 → asked f s (item_of columns i) ≡ true → (length (field_of kept ends i) ≡ 0 → ⊥)
      → FieldAdded (item_of columns i) (field_of kept ends i) b f s b' s' r → Answered columns kept ends f i b s b' s' (eqb r 0)

-- the first n fields, one after the other: whether one was taken
pub data AllAnswered (columns kept ends f b s : List ℕ) : ℕ → List ℕ → List ℕ → Bool → Type 0 where
  none_yet : AllAnswered columns kept ends f b s 0 b s false
  one_more : {i : ℕ} {b' s' b'' s'' : List ℕ} {t u : Bool} → AllAnswered columns kept ends f b s i b' s' t → Answered columns kept ends f i b' s' b'' s'' u
      → AllAnswered columns kept ends f b s (i + 1) b'' s'' (t || u)
