-- What load worked out for the engine, as a table of numbers and a table of who waits for whom: of which rows of the Properties table it tells. Definitions only.
use Rattle.std.specs.Prelude.{ℕ, ◌+◌, ◌<◌, ◌≤◌, ◌≡◌, Bool, true, ◌↔◌, List}
use Rattle.std.proofs.Math.Option.{Option, none, some}
use Rattle.paper_expressions.specs.Expressions.{Expr}
use Rattle.paper_expressions.specs.View.{At}
use Rattle.paper_rows.specs.Table.{task, data_item, source, Component, ◌№◌, a_plan, an_action, an_enquiry, Property, class, antecedent_tasks, trigger, parent_plan, confirmatory, optional, terminal, sources, data_item_of, mandatory, RowValue, class_is, component_is, components_are, expression_is, truth_row, text_row, Table, Contains, TaskId}
use Rattle.paper_engine.specs.Conditions.{IsTrue}
use Rattle.waits.specs.Twins.{marked, waiting, parent_at, trigger_f, terminal_f, order_at, confirmatory_f, class_f, first_at, count_at_fn, item_at, mandatory_f}
use Rattle.waits.specs.Booleans.{Tests}

-- x is the parent and one, or 0 where there is none
pub record Parent (x : ℕ) (o : Option RowValue) : Type 0 where
  pub none_there : x ≡ 0 → o ≡ none
  pub there : {P : ℕ} → x ≡ P + 1 → (P < 32) × (o ≡ some (component_is (task № P)))

-- the marks are the tasks of the sequence
pub record Waits (row : List Bool) (o : Option RowValue) : Type 0 where
  pub of : {l : List Component} {i : ℕ} {c : Component} → o ≡ some (components_are l) → At l i c → (A : ℕ) × (A < 32) × (c ≡ task № A) × (marked row A ≡ true)
  pub all : {A : ℕ} → A < 32 → marked row A ≡ true → (l : List Component) × (i : ℕ) × (o ≡ some (components_are l)) × At l i (task № A)

abbrev pub HasTrigger : Table → ℕ → Type 0
HasTrigger t T = (s : List ℕ) × Contains t (task № T) trigger (text_row s)

-- the sources of a task: so many numbers from the first on, each with its data item, and whether it is mandatory
pub record Sources (f : List ℕ) (T : ℕ) (t : Table) : Type 0 where
  pub of : {l : List Component} {i : ℕ} {c : Component} → Contains t (task № T) sources (components_are l) → At l i c → (i < count_at_fn f T) × (c ≡ source № (first_at f T + i))
  pub all : {i : ℕ} → i < count_at_fn f T → (l : List Component) × Contains t (task № T) sources (components_are l) × At l i (source № (first_at f T + i))
  pub items : (i : ℕ) → i < count_at_fn f T → (item_at f (first_at f T + i) < 64) × Contains t (source № (first_at f T + i)) data_item_of (component_is (data_item № (item_at f (first_at f T + i))))
  pub required : (i : ℕ) → i < count_at_fn f T → Tests (mandatory_f f (first_at f T + i)) (Contains t (source № (first_at f T + i)) mandatory (truth_row true))

pub record Worked (f : List ℕ) (w : List (List Bool)) (n : ℕ) (t : Table) : Type 0 where
  pub number : n ≤ 32
  pub ids : (T : ℕ) → TaskId t T ↔ (T < n)
  pub parents : {T : ℕ} → T < n → Parent (parent_at f T) (t (task № T) parent_plan)
  pub triggers : {T : ℕ} → T < n → Tests (trigger_f f T) (HasTrigger t T)
  pub terminals : {T : ℕ} → T < n → Tests (terminal_f f T) (Contains t (task № T) terminal (truth_row true))
  pub waits : {T : ℕ} → T < n → Waits (waiting w T) (t (task № T) antecedent_tasks)
  pub confirms : {T : ℕ} → T < n → Tests (confirmatory_f f T) (Contains t (task № T) confirmatory (truth_row true))
  pub plans : {T : ℕ} → T < n → Tests (class_f f T 1) (Contains t (task № T) class (class_is a_plan))
  pub actions : {T : ℕ} → T < n → Tests (class_f f T 2) (Contains t (task № T) class (class_is an_action))
  pub enquiries : {T : ℕ} → T < n → Tests (class_f f T 3) (Contains t (task № T) class (class_is an_enquiry))
  pub sourced : {T : ℕ} → T < n → Sources f T t
  -- every task, parents first; what is no task has no parent
  pub ordered : {T : ℕ} → T < n → (k : ℕ) × (k < 32) × (order_at f k ≡ T)
  pub tasks : {k : ℕ} → k < 32 → order_at f k < n
  pub first : {k P : ℕ} → k < 32 → parent_at f (order_at f k) ≡ P + 1 → (j : ℕ) × (j < k) × (order_at f j ≡ P)
  pub rest : {T : ℕ} → T < 32 → ¬ (T < n) → parent_at f T ≡ 0
  pub past : {T P : ℕ} → ¬ (T < n) → ¬ Contains t (task № T) parent_plan (component_is (task № P))
  -- what the first edition has not
  pub no_optional : {T : ℕ} → ¬ Contains t (task № T) optional (truth_row true)

-- what the property asks for, if there, is true
abbrev pub Allowed : Table → Property → ℕ → Type 0
Allowed t p T = (e : Expr) → Contains t (task № T) p (expression_is e) → IsTrue t e T

-- the marks of the n tasks say of which P holds
abbrev pub Marks : ℕ → (ℕ → Type 0) → List Bool → Type 0
Marks n P m = (T : ℕ) → T < n → Tests (marked m T) (P T)
