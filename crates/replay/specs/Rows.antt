-- The answer to `rows`: docs/REPLAY.md, "Answers". Line behind line, each where the buffer has room for it. Definitions only.
use Rattle.std.specs.Prelude.{◌≡◌, Bool, true, false, List, [], ◌∷◌, ◌++◌, ◌⊎◌, ℕ, zero, suc, ◌<◌, get_or, length}
use Rattle.paper_expressions.specs.Bytes.{bytes}
use Rattle.digits.specs.Appends.{Appends}
use Rattle.row_shown.specs.declared.Shown.{Shown}
use Rattle.row_shown.specs.declared.Shown.TheVariants.{NoRow, There, OfValue, OfState, OfClass, OfType, OfTime, OfComponent, Refused}
use Rattle.row_shown.specs.declared.Row.{Row}
use Rattle.row_read.specs.Read.{ReadsRow}
use Rattle.transcript_values.specs.Literals.{room_at}
use Rattle.transcript.specs.Answers.{refused_lined, counted_written, row_lined}

-- ---- what reading a row answers

abbrev pub is_row : Shown → Bool
is_row NoRow = false
is_row There = true
is_row OfValue = true
is_row (OfState n) = true
is_row (OfClass n) = true
is_row (OfType n) = true
is_row (OfTime n) = true
is_row (OfComponent k n) = true
is_row (Refused n) = true

abbrev pub is_refused : Shown → Bool
is_refused NoRow = false
is_refused There = false
is_refused OfValue = false
is_refused (OfState n) = false
is_refused (OfClass n) = false
is_refused (OfType n) = false
is_refused (OfTime n) = false
is_refused (OfComponent k n) = false
is_refused (Refused n) = true

-- the number of a refusal
abbrev pub refusal_of : Shown → ℕ
refusal_of NoRow = 0
refusal_of There = 0
refusal_of OfValue = 0
refusal_of (OfState n) = 0
refusal_of (OfClass n) = 0
refusal_of (OfType n) = 0
refusal_of (OfTime n) = 0
refusal_of (OfComponent k n) = 0
refusal_of (Refused n) = n

-- ---- a buffer that became another

-- its bytes, and the place behind those that are to be written
pub record Buffer : Type 0 where
  pub out : List ℕ
  pub place : ℕ

abbrev pub buffer : List ℕ → ℕ → Buffer
buffer out o = record { out = out; place = o }

-- these bytes are appended
abbrev pub Writes : Buffer → Buffer → List ℕ → Type 0
Writes x y w = Appends x.out y.out x.place y.place w

-- where the next line goes: to the front, if more than a quarter of the buffer is full, and is written out then
abbrev pub with_room : Buffer → Buffer
with_room x = buffer x.out (room_at (length x.out) x.place)

-- the steps 0 to n - 1, one behind the other
pub data Series (Step : ℕ → Buffer → Buffer → Type 0) : ℕ → Buffer → Buffer → Type 0 where
  none : {x : Buffer} → Series Step zero x x
  more : {n : ℕ} {x y z : Buffer} → Series Step n x y → Step n y z → Series Step (suc n) x z

-- ---- the rows, of the text bytes b, the plan f, who waits for whom w, and the state s

-- the row of a property: a line, if there is one
pub data RowListed (b f : List ℕ) (w : List (List Bool)) (s : List ℕ) (kind component property : ℕ) (x y : Buffer) : Type 0 where
  no_row : (r : Row) → ReadsRow kind component property f w s r → is_row r.shown ≡ false → y ≡ x → RowListed b f w s kind component property x y
  a_row : (r : Row) → ReadsRow kind component property f w s r → is_row r.shown ≡ true → Writes (with_room x) y (row_lined b kind component property r) → RowListed b f w s kind component property x y

-- whether there is a component: each has a class, property 0
pub record IsThere (f : List ℕ) (w : List (List Bool)) (s : List ℕ) (kind component : ℕ) (there : Bool) : Type 0 where
  pub row : Row
  pub reads : ReadsRow kind component 0 f w s row
  pub is : is_row row.shown ≡ there

-- the rows of a component, by its 59 properties
abbrev pub ComponentRows : List ℕ → List ℕ → List (List Bool) → List ℕ → ℕ → ℕ → Buffer → Buffer → Type 0
ComponentRows b f w s kind component = Series (RowListed b f w s kind component) 59

pub record ComponentListed (b f : List ℕ) (w : List (List Bool)) (s : List ℕ) (kind component : ℕ) (x y : Buffer) : Type 0 where
  pub there : IsThere f w s kind component true
  pub rows : ComponentRows b f w s kind component x y

-- the components of a kind, up to the first that is not there; there are at most 128
pub record KindListed (b f : List ℕ) (w : List (List Bool)) (s : List ℕ) (kind : ℕ) (x y : Buffer) : Type 0 where
  pub number : ℕ
  pub components : Series (ComponentListed b f w s kind) number x y
  pub all : (number ≡ 128) ⊎ ((number < 128) × IsThere f w s kind number false)

-- the rows of the seven kinds; then the time, the Exception flag and a point
pub record AllListed (b f : List ℕ) (w : List (List Bool)) (s : List ℕ) (x y : Buffer) : Type 0 where
  pub rows : Buffer
  pub kinds : Series (KindListed b f w s) 7 x rows
  pub last : Writes (with_room rows) y (counted_written (bytes "time") (get_or s 2 0) ++ counted_written (bytes "flag") (get_or s 1 0) ++ (46 ∷ 10 ∷ []))

-- the whole answer; refused where reading the root is
pub data RowsAnswered (b f : List ℕ) (w : List (List Bool)) (s : List ℕ) (x y : Buffer) : Type 0 where
  refused : (r : Row) → ReadsRow 0 0 0 f w s r → is_refused r.shown ≡ true → Writes x y (refused_lined (refusal_of r.shown) 0) → RowsAnswered b f w s x y
  listed : (r : Row) → ReadsRow 0 0 0 f w s r → is_refused r.shown ≡ false → AllListed b f w s x y → RowsAnswered b f w s x y
