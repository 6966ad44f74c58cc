-- What is promised of load: its reply, and every cell of every table lent to it; and what its steps have to do. Definitions only.
use Rattle.std.specs.Prelude.{ℕ, ◌≡◌, Bool, true, false, ◌||◌, List, ltb, length, replicate, get_or}
use Rattle.paper_guideline.specs.Structure.{TopLevel, tasks}
use Rattle.paper_guideline.specs.Refusals as Refusals
use Rattle.parts.specs.Part.{Table, table}
use Rattle.blank.specs.Zeros.{zeros}
use Rattle.guideline_rows.specs.Rows.{flatten}
use Rattle.guideline_rows.specs.Encoded.{Encoded}
use Rattle.guideline_rows.specs.OneEncoding.{AsLong}
use Rattle.stages.specs.Judged.{is_short}
use Rattle.opening.specs.Opened.{Opened, Opens}
use Rattle.plan.specs.Filled.{Filled, Fills}
use Rattle.load.specs.declared.Reply.{Reply}

-- ---- the lent tables

pub record Lent : Type 0 where
  pub rows : List ℕ
  pub parts : Table
  pub plan : List ℕ
  pub waits : List (List Bool)
  pub state : List ℕ

abbrev pub lent : List ℕ → List ℕ → List ℕ → List (List Bool) → List ℕ → List ℕ → Lent
lent rows cells plan waits bytes state = record { rows = rows; parts = table cells bytes; plan = plan; waits = waits; state = state }

-- of so many cells of the plan, bytes and cells of the state, some are too few
abbrev pub few : ℕ → ℕ → ℕ → Bool
few plan bytes state = ltb plan 1640 || (ltb bytes 65536 || ltb state 2952)

-- a lent table is shorter than its least length
abbrev pub short_f : Lent → Bool
short_f a = is_short (length a.rows) (length a.parts.cells) (length a.parts.bytes) || few (length a.plan) (length a.parts.bytes) (length a.state)

-- nobody waits
abbrev pub no_waits : List (List Bool)
no_waits = replicate 32 (replicate 32 false)

-- ---- the one empty pattern: every cell is zero, in tables as long as they were

-- the plan, who waits for whom, and the state
pub record Emptied (f s f' : List ℕ) (w' : List (List Bool)) (s' : List ℕ) : Type 0 where
  pub plan : f' ≡ zeros f
  pub waits : w' ≡ no_waits
  pub state : s' ≡ zeros s

pub record Empty (a a' : Lent) : Type 0 where
  pub rows : a'.rows ≡ zeros a.rows
  pub cells : a'.parts.cells ≡ zeros a.parts.cells
  pub bytes : a'.parts.bytes ≡ zeros a.parts.bytes
  pub rest : Emptied a.plan a.state a'.plan a'.waits a'.state

-- ---- an accepted text: its rows, parts and texts, the plan, who waits for whom, and the first state

pub record Loaded (text : List ℕ) (a a' : Lent) : Type 0 where
  pub guideline : List TopLevel
  pub read : Refusals.Read text guideline
  pub answers : Refusals.Answers (short_f a ≡ true) text Refusals.loads
  pub long : AsLong a'.rows a.rows a'.parts a.parts
  pub encoded : Encoded (flatten guideline) a'.rows a'.parts
  pub plan_long : length a'.plan ≡ length a.plan
  pub filled : Filled a'.rows (length (flatten guideline)) a'.parts.bytes a'.plan a'.waits
  pub state_long : length a'.state ≡ length a.state
  pub opened : Opened (length (tasks guideline)) a'.state

abbrev pub Outcome : List ℕ → Lent → Lent → Reply → Type 0
Outcome text a a' Reply.Done = Loaded text a a'
Outcome text a a' (Reply.Refused n p) = Refusals.Answers (short_f a ≡ true) text (Refusals.refused n p) × Empty a a'

-- ---- the steps

-- what load works out of the first n rows x, with the text bytes b: the plan, who waits for whom, and the state
pub record Prepared (x : List ℕ) (n : ℕ) (b f s f' : List ℕ) (w' : List (List Bool)) (s' : List ℕ) : Type 0 where
  pub fills : Fills x n b f f' w'
  pub opens : Opens s (get_or f' 0 0) s'

-- the reply where a table is short
abbrev pub Told : Bool → List ℕ → Reply → Type 0
Told short text Reply.Done = ⊥
Told short text (Reply.Refused n p) = Refusals.Answers (short ≡ true) text (Refusals.refused n p)

pub record Turned (text : List ℕ) (r : Reply) : Type 0 where
  pub told : (short : Bool) → short ≡ true → Told short text r

-- ---- the whole; shut, so that a caller's proof doesn't spell it out

pub record Replied (text : List ℕ) (a a' : Lent) (r : Reply) : Type 0 where
  pub outcome : Outcome text a a' r
