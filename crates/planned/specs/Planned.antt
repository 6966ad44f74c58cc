-- What load works out of a guideline for the engine, the plan and who waits for whom: what they tell of every table that calls and cycles leave. Definitions only.
use Rattle.std.specs.Prelude.{ℕ, ◌+◌, ◌-◌, ◌<◌, ◌≤◌, ◌≡◌, Bool, true, false, cond, ◌↔◌, List, eqb, get_or, length}
use Rattle.std.proofs.Math.Option.{Option, none, some}
use Rattle.paper_expressions.specs.Bytes.{Alike}
use Rattle.paper_expressions.specs.View.{At}
use Rattle.paper_expressions.specs.View as Views
use Rattle.paper_expressions.proofs.Laws.Parentheses.{bare}
use Rattle.paper_expressions.specs.Within.{Modest}
use Rattle.paper_guideline.specs.Structure.{TopLevel}
use Rattle.paper_guideline.specs.Limits.{depth_limit}
use Rattle.paper_rows.specs.Table.{task, data_item, source, ◌№◌, a_source, class, precondition, wait_condition, trigger, terminate_condition, postcondition, confirmatory, terminal, name, mandatory, RowValue, class_is, truth_row, text_row, assertion_is, Assigns, Table, Contains}
use Rattle.paper_engine.proofs.Laws.Kept.{Kept, view_f}
use Rattle.parts.specs.Part.{Ends, Within}
use Rattle.parts.specs.Part as Parts
use Rattle.parts.specs.Items.{Items}
use Rattle.parts.specs.Texts.{text_at_fn}
use Rattle.apply.specs.Tasks.{name_of}
use Rattle.waits.specs.Twins.{first_at, count_at_fn}
use Rattle.waits.specs.Worked.{Worked}
use Rattle.operations.specs.Rows.{target_at, assign_at, assigns_at}
use Rattle.review.specs.Changes.{tasks_in, Numbers}
use Rattle.truths.specs.Truth.{Condition}
use Rattle.truths.specs.Part.{part_of}

-- ---- the columns of the plan that no crate below reads

-- where the expression of an assignment ends, and its task
abbrev pub assigned_end : List ℕ → ℕ → ℕ
assigned_end f a = get_or f (936 + a) 0

abbrev pub assigned_task : List ℕ → ℕ → ℕ
assigned_task f a = get_or f (1384 + a) 0

-- the handles of the names of the data items and of the tasks; the items' declared types
abbrev pub item_names : List ℕ → List ℕ
item_names f = part_of f 1256 (get_or f 1 0)

abbrev pub item_types : List ℕ → List ℕ
item_types f = part_of f 1320 (get_or f 1 0)

abbrev pub task_names : List ℕ → List ℕ
task_names f = part_of f 1192 (tasks_in f)

-- how many sources: those of the last task, and of all before it
abbrev pub sources_in : List ℕ → ℕ
sources_in f = first_at f (tasks_in f - 1) + count_at_fn f (tasks_in f - 1)

-- the handle of a task's trigger
abbrev pub trigger_text : List ℕ → ℕ → ℕ
trigger_text f T = get_or f (1224 + T) 0

-- the row that a cell stands for: 1 is true, 2 is false, and there is none for another
abbrev pub answered : ℕ → Option RowValue
answered x = cond (eqb x 1) (some (truth_row true)) (cond (eqb x 2) (some (truth_row false)) none)

-- ---- assignments

-- the assignment a of the task T is that of the assertion: its target names its data item, case aside, and its expression ends where the plan says
pub record Assignment (p : Parts.Table) (f : List ℕ) (t : Table) (T a : ℕ) (x : Assigns) : Type 0 where
  pub named : List ℕ
  pub target : Contains t (data_item № target_at f a) name (text_row named)
  pub alike : Alike named x.target
  pub ends : Ends p (assigned_end f a) (bare x.assigned)
  pub deep : Within depth_limit (bare x.assigned)
  pub modest : Modest (bare x.assigned)
  pub by : assigned_task f a ≡ T

-- the assertion of a task: so many numbers from the first on
pub record Assignments (p : Parts.Table) (f : List ℕ) (t : Table) (T : ℕ) : Type 0 where
  pub of : {l : List Assigns} {i : ℕ} {x : Assigns} → Contains t (task № T) postcondition (assertion_is l) → At l i x → (i < assigns_at f T) × Assignment p f t T (assign_at f T + i) x
  pub all : {i : ℕ} → i < assigns_at f T → (l : List Assigns) × (x : Assigns) × Contains t (task № T) postcondition (assertion_is l) × At l i x

-- ---- the whole: f the plan, w who waits for whom, p the parts with the text bytes, g the guideline as a load leaves it

pub record Planned (g : List TopLevel) (p : Parts.Table) (f : List ℕ) (w : List (List Bool)) : Type 0 where
  pub numbers : Numbers f
  pub worked : (t : Table) → Kept g t → Worked f w (tasks_in f) t
  -- every assignment has its number and its data item
  pub targets : {a : ℕ} → a < 256 → target_at f a < 64
  pub preconditions : (t : Table) → Kept g t → (T : ℕ) → T < tasks_in f → Condition p (get_or f (520 + T) 0) (t (task № T) precondition)
  pub wait_conditions : (t : Table) → Kept g t → (T : ℕ) → T < tasks_in f → Condition p (get_or f (552 + T) 0) (t (task № T) wait_condition)
  pub terminates : (t : Table) → Kept g t → (T : ℕ) → T < tasks_in f → Condition p (get_or f (584 + T) 0) (t (task № T) terminate_condition)
  pub assigned : (t : Table) → Kept g t → (T : ℕ) → T < tasks_in f → Assignments p f t T
  -- the names of data items and tasks, as the evaluator reads them
  pub items : (t : Table) → Kept g t → Items p.bytes (item_names f) (item_types f) (view_f g t)
  pub named_tasks : (t : Table) → Kept g t → length (view_f g t).tasks ≡ length (task_names f)
  pub task-names : (t : Table) → Kept g t → {i : ℕ} {x : Views.Task} → At (view_f g t).tasks i x → x.name ≡ name_of p.bytes (task_names f) i
  -- all columns are there
  pub long : 1640 ≤ length f
  -- the rows that a trigger sent, and reading a row, ask for
  pub triggers : (t : Table) → Kept g t → {T : ℕ} {s : List ℕ} → T < tasks_in f → Contains t (task № T) trigger (text_row s) → text_at_fn p.bytes (trigger_text f T) ≡ s
  pub terminals : (t : Table) → Kept g t → {T : ℕ} → T < tasks_in f → t (task № T) terminal ≡ answered (get_or f (72 + T) 0)
  pub confirmatories : (t : Table) → Kept g t → {T : ℕ} → T < tasks_in f → t (task № T) confirmatory ≡ answered (get_or f (136 + T) 0)
  -- no assertion is without an assignment
  pub asserted : (t : Table) → Kept g t → {T : ℕ} {l : List Assigns} → T < tasks_in f → Contains t (task № T) postcondition (assertion_is l) → 0 < assigns_at f T
  pub source_ids : (t : Table) → Kept g t → (n : ℕ) → Contains t (source № n) class (class_is a_source) ↔ (n < sources_in f)
  pub mandatories : (t : Table) → Kept g t → {n : ℕ} → n < sources_in f → t (source № n) mandatory ≡ answered (get_or f (392 + n) 0)

-- where the texts of the data items' values begin in the text bytes; before them stand the guideline's own
abbrev pub own_texts : ℕ
own_texts = 16384

-- whatever texts the data items hold
abbrev pub Plans : List TopLevel → List ℕ → List ℕ → List ℕ → List (List Bool) → Type 0
Plans g x b f w = (c : List ℕ) → ((i : ℕ) → i < own_texts → get_or c i 0 ≡ get_or b i 0) → Planned g (Parts.table x c) f w
