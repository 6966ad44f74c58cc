-- A line of a sheet that was read, and its answer: README, "Run it on a season's sheet"; docs/DECISIONS.md, "Last season's sheets". x are the parts, b the
-- text bytes, f the plan, w who waits for whom, s the state. Definitions only.
use Rattle.std.specs.Prelude.{◌≡◌, Bool, true, false, cond, List, ◌++◌, ℕ, ◌+◌, ◌<◌, ◌≤◌, eqb, get_or, length}
use Rattle.truths.specs.Part.{part_of}
use Rattle.digits.specs.Appends.{Appends}
use Rattle.separated.specs.declared.records.Scan.{Scan}
use Rattle.separated.specs.Records.{field_of}
use Rattle.season_answer.specs.Columns.{item_count}
use Rattle.season_answer.specs.Fields.{labels_written, blanks_written, refused_written, values_written, reached_written, ended_written}
use Rattle.season.specs.Series.{item_of, FieldAdded}
use Rattle.season.specs.UntilQuiet.{Line, Series}
use Rattle.season.specs.Lines.{is_spoilt, unread_line}

-- the handle of the name of the data item of the column i
abbrev pub name_of : List ℕ → List ℕ → ℕ → ℕ
name_of f columns i = get_or f (1256 + item_of columns i) 0

-- the field i, before the first run: the number of its refusal, or 0, and that handle
pub data Entered (columns kept ends f : List ℕ) (i : ℕ) (b s : List ℕ) : List ℕ → List ℕ → ℕ → ℕ → Type 0 where
  of_label : 64 ≤ item_of columns i → Entered columns kept ends f i b s b s 0 (name_of f columns i)
  of_item : {b' s' : List ℕ} {r : ℕ} → item_of columns i < 64 → FieldAdded (item_of columns i) (field_of kept ends i) b f s b' s' r → Entered columns kept ends f i b s b' s' r (name_of f columns i)

-- of two refusals the first, by the number of the first
abbrev pub earlier : ℕ → ℕ → ℕ → ℕ
earlier number a b = cond (eqb number 0) b a

-- the first n fields, one after the other: the first refusal
pub data AllEntered (columns kept ends f b s : List ℕ) : ℕ → List ℕ → List ℕ → ℕ → ℕ → Type 0 where
  none_yet : AllEntered columns kept ends f b s 0 b s 0 0
  one_more : {i : ℕ} {b' s' b'' s'' : List ℕ} {p h q k : ℕ} → AllEntered columns kept ends f b s i b' s' p h → Entered columns kept ends f i b' s' b'' s'' q k
      → AllEntered columns kept ends f b s (i + 1) b'' s'' (earlier p p q) (earlier p h k)

-- what is written of it behind its labels, and the tables that it leaves: a line with a refused value does not run
pub data Written (x f : List ℕ) (w : List (List Bool)) (l : Line) (separator : ℕ) (b s : List ℕ) : List ℕ → List ℕ → List ℕ → Type 0 where
  refused : {b' s' : List ℕ} {number name : ℕ} → AllEntered l.columns l.kept l.ends f b s l.many b' s' number name → (number ≡ 0 → ⊥)
      → Written x f w l separator b s b' s' (blanks_written (item_count f) separator ++ refused_written number b' name separator)
  ran : {b₁ s₁ b' s' : List ℕ} {number name e k : ℕ} → AllEntered l.columns l.kept l.ends f b s l.many b₁ s₁ number name → number ≡ 0 → Series x f w l b₁ s₁ b' s' e k
      → Written x f w l separator b s b' s' (values_written f b' s' separator ++ reached_written f b' s' separator ++ ended_written e k separator)

-- the text bytes and the state as load left them: those that are lent, and the third of the joined tables
pub record AsLoaded (texts tables b s : List ℕ) : Type 0 where
  pub bytes : length b ≡ 65536
  pub of_texts : (k : ℕ) → k < 65536 → get_or b k 0 ≡ get_or texts k 0
  pub cells : length s ≡ 2952
  pub of_state : (k : ℕ) → k < 2952 → get_or s k 0 ≡ get_or tables (5736 + k) 0

-- what is written of a line behind its labels, from these on; b' and s' are what it leaves of them
pub record FromLoaded (tables texts : List ℕ) (w : List (List Bool)) (l : Line) (separator : ℕ) (b' s' written : List ℕ) : Type 0 where
  pub b : List ℕ
  pub s : List ℕ
  pub as_loaded : AsLoaded texts tables b s
  pub is_written : Written (part_of tables 0 4096) (part_of tables 4096 1640) w l separator b s b' s' written

-- the whole line
pub record LineAnswered (tables texts : List ℕ) (w : List (List Bool)) (l : Line) (separator : ℕ) (out out' : List ℕ) (o r : ℕ) : Type 0 where
  pub b' : List ℕ
  pub s' : List ℕ
  pub written : List ℕ
  pub from_loaded : FromLoaded tables texts w l separator b' s' written
  pub appended : Appends out out' o r (labels_written l.columns l.many l.kept l.ends separator ++ written)

-- a record that ended: unread, or answered
pub data RecordAnswered (tables texts : List ℕ) (w : List (List Bool)) (l : Line) (separator : ℕ) (scan : Scan) (out out' : List ℕ) (o r : ℕ) : Type 0 where
  unread : is_spoilt scan l.many ≡ true → Appends out out' o r (unread_line l.columns l.many (item_count (part_of tables 4096 1640)) separator)
      → RecordAnswered tables texts w l separator scan out out' o r
  read : is_spoilt scan l.many ≡ false → LineAnswered tables texts w l separator out out' o r → RecordAnswered tables texts w l separator scan out out' o r
