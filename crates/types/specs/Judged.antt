-- What is promised of the answer: the smallest place at which an expression has no fitting type, or that there is none; and of each step. Definitions only.
use Rattle.std.specs.Prelude.{ℕ, ◌+◌, ◌≤◌, ◌<◌, ◌≡◌, Bool, List, length, take, Option, Some, None}
use Rattle.std.proofs.Math.Option.{some}
use Rattle.paper_expressions.specs.View.{At}
use Rattle.paper_expressions.proofs.Laws.Search.{Reflects}
use Rattle.paper_guideline.specs.Structure.{TopLevel, data_items}
use Rattle.paper_guideline.specs.Limits.{data_item_limit}
use Rattle.paper_guideline.specs.Names.{NameBreach}
use Rattle.paper_guideline.specs.Parts.{Typed, expressions}
use Rattle.paper_guideline.specs.Refusals.{declared_items, Fitting}
use Rattle.parts.specs.Part.{Table}
use Rattle.parts.specs.Items.{Items}
use Rattle.guideline_rows.specs.Rows.{Row, flatten}
use Rattle.guideline_rows.specs.Encoded.{Encoded}
use Rattle.guideline_rows.specs.InLimits.{InLimits}
use Rattle.row_tests.specs.Table.{row_limit, cell_of}
use Rattle.row_tests.specs.Least.{Least}
use Rattle.types.specs.Roles.{asks}

-- ---- the whole

-- "some expression has no fitting type", and starts at p
pub record Misfit (g : List TopLevel) (p : ℕ) : Type 0 where
  pub i : ℕ
  pub x : Typed
  pub at : At (expressions g) i x
  pub misfit : ¬ Fitting (declared_items g) x x.role
  pub there : p ≡ x.expression.start

-- the answer for a guideline
abbrev pub ToldOf : List TopLevel → Option ℕ → Type 0
ToldOf g (Some p) = Misfit g p × ((q : ℕ) → Misfit g q → p ≤ q)
ToldOf g None = (q : ℕ) → ¬ Misfit g q

-- the tables hold the n rows of the guideline, which is within the limits and breaks no rule on names
pub record Given (x : List ℕ) (n : ℕ) (t : Table) (g : List TopLevel) : Type 0 where
  pub encoded : Encoded (flatten g) x t
  pub limits : InLimits (flatten g)
  pub count : n ≡ length (flatten g)
  pub few_rows : n ≤ row_limit
  pub few_items : length (data_items g) ≤ data_item_limit
  pub names : (p : ℕ) → ¬ NameBreach g p

abbrev pub Judged : List ℕ → ℕ → Table → Option ℕ → Type 0
Judged x n t r = (g : List TopLevel) → Given x n t g → ToldOf g r

-- where the first m cells of the columns are the items
abbrev pub JudgedWith : List ℕ → ℕ → Table → List ℕ → List ℕ → ℕ → Option ℕ → Type 0
JudgedWith x n t names types m r = (g : List TopLevel) → Given x n t g → Items t.bytes (take m names) types (declared_items g) → ToldOf g r

-- ---- the steps

-- the row j has an expression that doesn't fit
pub record Unfit (g : List TopLevel) (j : ℕ) : Type 0 where
  pub row : Row
  pub x : Typed
  pub at : At (flatten g) j row
  pub asked : asks row ≡ some x
  pub misfit : ¬ Fitting (declared_items g) x x.role

abbrev pub Unfits : List ℕ → Table → List ℕ → List ℕ → ℕ → Bool → Type 0
Unfits x t names types j r = (n : ℕ) (g : List TopLevel) → Given x n t g → Items t.bytes names types (declared_items g) → j < n → Reflects (Unfit g j) r

-- the smallest place of those among the first i rows
abbrev pub AllMisfits : List ℕ → Table → List ℕ → List ℕ → ℕ → Option ℕ → Type 0
AllMisfits x t names types i r =
    (n : ℕ) (g : List TopLevel) → Given x n t g → Items t.bytes names types (declared_items g) → i ≤ n → Least (λ j. (j < i) × Unfit g j) (λ j. cell_of x j 5) r

abbrev pub Judges : List ℕ → Table → List ℕ → List ℕ → ℕ → Option ℕ → Option ℕ → Type 0
Judges x t names types j best r = AllMisfits x t names types j best → AllMisfits x t names types (j + 1) r
