-- What is promised of load's answer, and of the rows, parts and texts lent to it; and what its steps have to do. Definitions only.
use Rattle.std.specs.Prelude.{ℕ, ◌≡◌, Bool, true, List, length, Result, Ok, Err}
use Rattle.paper_guideline.specs.Structure.{TopLevel}
use Rattle.paper_guideline.specs.Refusals as Refusals
use Rattle.parts.specs.Part.{Table}
use Rattle.guideline_rows.specs.Rows.{flatten}
use Rattle.guideline_rows.specs.Encoded.{Encoded}
use Rattle.guideline_rows.specs.OneEncoding.{AsLong}
use Rattle.stages.specs.Stages.{Passed}
use Rattle.stages.specs.Judged.{Short, Empty}
use Rattle.stages.specs.declared.Refused.{Refused}

-- the text loads, and the tables hold its structure, n rows, cell by cell
pub record Loaded (text x : List ℕ) (t : Table) (x' : List ℕ) (t' : Table) (n : ℕ) : Type 0 where
  pub guideline : List TopLevel
  pub read : Refusals.Read text guideline
  pub answers : Refusals.Answers (Short x t) text Refusals.loads
  pub count : n ≡ length (flatten guideline)
  pub long : AsLong x' x t' t
  pub encoded : Encoded (flatten guideline) x' t'

-- the tables x, t before, and x', t' after
abbrev pub Reply : List ℕ → List ℕ → Table → List ℕ → Table → Result ℕ Refused → Type 0
Reply text x t x' t' (Ok n) = Loaded text x t x' t' n
Reply text x t x' t' (Err r) = Refusals.Answers (Short x t) text (Refusals.refused r.number r.place) × Empty x t x' t'

-- shut, so that a caller's proof doesn't spell it out
pub record Answered (text x : List ℕ) (t : Table) (x' : List ℕ) (t' : Table) (r : Result ℕ Refused) : Type 0 where
  pub reply : Reply text x t x' t' r

-- ---- the steps: over tables that hold a guideline which passes the stages up to the limits, up to the names; whether a lent table is short is told before

pub record Passing (Short : Type 0) (text x : List ℕ) (t : Table) (n : ℕ) (k : ℕ) (g : List TopLevel) : Type 0 where
  pub read : Refusals.Read text g
  pub passed : Passed Short text k
  pub count : n ≡ length (flatten g)
  pub encoded : Encoded (flatten g) x t

-- what the tables then hold
abbrev pub Outcome : Type 0 → List ℕ → List ℕ → Table → ℕ → List ℕ → Table → Result ℕ Refused → Type 0
Outcome S text x t n x' t' (Ok m) = Refusals.Answers S text Refusals.loads × (m ≡ n) × (x' ≡ x) × (t' ≡ t)
Outcome S text x t n x' t' (Err r) = Refusals.Answers S text (Refusals.refused r.number r.place) × Empty x t x' t'

pub record Typed (x : List ℕ) (t : Table) (n : ℕ) (x' : List ℕ) (t' : Table) (r : Result ℕ Refused) : Type 0 where
  pub outcome : (short : Bool) (text : List ℕ) (g : List TopLevel) → Passing (short ≡ true) text x t n 6 g → Outcome (short ≡ true) text x t n x' t' r

pub record Named (x : List ℕ) (t : Table) (n : ℕ) (x' : List ℕ) (t' : Table) (r : Result ℕ Refused) : Type 0 where
  pub outcome : (short : Bool) (text : List ℕ) (g : List TopLevel) → Passing (short ≡ true) text x t n 5 g → Outcome (short ≡ true) text x t n x' t' r
