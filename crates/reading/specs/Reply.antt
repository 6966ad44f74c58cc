-- What is promised of the reading of a text, and of every cell lent to it; and what its steps have to do. Definitions only.
use Rattle.std.specs.Prelude.{ℕ, List, Result, Ok, Err}
use Rattle.parts.specs.Part.{Table}
use Rattle.columns.specs.Columns.{Lexed}
use Rattle.stages.specs.Stages.{Turned}
use Rattle.stages.specs.Judged.{Short, Empty, Accepted}
use Rattle.stages.specs.declared.Refused.{Refused}

-- the tables x, t before, and x', t' after
abbrev pub Reply : List ℕ → List ℕ → Table → List ℕ → Table → Result ℕ Refused → Type 0
Reply text x t x' t' (Ok n) = Accepted text x t x' t' n
Reply text x t x' t' (Err r) = Turned (Short x t) text r.number r.place × Empty x t x' t'

pub record Answered (text x : List ℕ) (t : Table) (x' : List ℕ) (t' : Table) (r : Result ℕ Refused) : Type 0 where
  pub reply : Reply text x t x' t' r

-- ---- the steps

-- over blank tables
pub record Begun (text x : List ℕ) (t : Table) (x' : List ℕ) (t' : Table) (r : Result ℕ Refused) : Type 0 where
  pub reply : Empty x t x t → Reply text x t x' t' r

-- from the tokens on
pub record Structured (text kinds places lengths x : List ℕ) (t : Table) (x' : List ℕ) (t' : Table) (r : Result ℕ Refused) : Type 0 where
  pub reply : Lexed text kinds places lengths → Empty x t x t → Reply text x t x' t' r
