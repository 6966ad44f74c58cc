-- What is promised of the answer: the smallest place of a breach of the rules on names, or that there is none. Definitions only; the laws are in proofs/VerdictLaws.antt.
use Rattle.std.specs.Prelude.{ℕ, ◌+◌, ◌≤◌, ◌<◌, ◌≡◌, cond, ◌⊎◌, List, length, get_or, Option, Some, None}
use Rattle.paper_guideline.specs.Structure.{TopLevel, tasks, data_items}
use Rattle.paper_guideline.specs.Limits.{task_limit, data_item_limit}
use Rattle.paper_guideline.specs.Names.{NameBreach}
use Rattle.guideline_rows.specs.Rows.{flatten}
use Rattle.row_names.specs.Sheet
use Sheet.{task_kind, once, Flaw}
use Rattle.row_names.specs.Shape.{Shaped}
use Rattle.row_names.specs.Flat.{is_data}
use Rattle.row_names.specs.Agreement.{Agrees}
use Rattle.row_tests.specs.Table.{row_limit, cell_of, sheet}
use Rattle.name_tests.specs.Lists.{Lists}
use Rattle.row_tests.specs.Least.{Least}

-- ---- definitions

-- the answer for a guideline
abbrev pub ToldOf : List TopLevel → Option ℕ → Type 0
ToldOf g (Some p) = NameBreach g p × ((q : ℕ) → NameBreach g q → p ≤ q)
ToldOf g None = (q : ℕ) → ¬ NameBreach g q

-- for every guideline within the limits whose rows are the first n of the table
abbrev pub Judged : List ℕ → ℕ → List ℕ → Option ℕ → Type 0
Judged x n b r =
    (g : List TopLevel) → Shaped g → Agrees (sheet x n b) (flatten g) → n ≤ row_limit → length (tasks g) ≤ task_limit → length (data_items g) ≤ data_item_limit → ToldOf g r

abbrev pub spot_of : List ℕ → ℕ → ℕ
spot_of x j = cond (once (cell_of x j 0)) (cell_of x j 1) (cell_of x j 3)

-- the rows before i that have a flaw
abbrev pub FlawsTo : List ℕ → ℕ → List ℕ → ℕ → ℕ → Type 0
FlawsTo x n b i j = (j < i) × Flaw (sheet x n b) j

abbrev pub AllFlaws : List ℕ → ℕ → List ℕ → List ℕ → ℕ → List ℕ → ℕ → ℕ → Option ℕ → Type 0
AllFlaws x n b l m k d i r = Lists task_kind x n l m → Lists is_data x n k d → Least (FlawsTo x n b i) (spot_of x) r

abbrev pub Judges : List ℕ → ℕ → List ℕ → List ℕ → ℕ → List ℕ → ℕ → ℕ → Option ℕ → Option ℕ → Type 0
Judges x n b l m k d j best r = j < n → AllFlaws x n b l m k d j best → AllFlaws x n b l m k d (j + 1) r

-- a task without a mark, among the first of the list
pub record Unmarked (tasks marks : List ℕ) (i j : ℕ) : Type 0 where
  pub k : ℕ
  pub below : k < i
  pub row : get_or tasks k 0 ≡ j
  pub blank : get_or marks k 0 ≡ 0

abbrev pub OrUnmarked : List ℕ → ℕ → List ℕ → List ℕ → List ℕ → ℕ → ℕ → Type 0
OrUnmarked x n b tasks marks i j = FlawsTo x n b n j ⊎ Unmarked tasks marks i j

abbrev pub Tells : List ℕ → List ℕ → List ℕ → ℕ → ℕ → Option ℕ → Option ℕ → Type 0
Tells x tasks marks m i best r =
    (n : ℕ) (b : List ℕ) → Lists task_kind x n tasks m → Least (FlawsTo x n b n) (spot_of x) best → Least (OrUnmarked x n b tasks marks i) (spot_of x) r

-- one task more
abbrev pub TellsOne : List ℕ → List ℕ → List ℕ → ℕ → Option ℕ → Option ℕ → Type 0
TellsOne x tasks marks k best r = (m : ℕ) (from : Option ℕ) → k < m → Tells x tasks marks m k from best → Tells x tasks marks m (k + 1) from r
