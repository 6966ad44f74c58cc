-- What the plan says of the structure of a guideline, column by column, in the words of section 12's operations. Definitions only.
-- A cell of what load doesn't come to perform is 0.
use Rattle.std.specs.Prelude.{ℕ, ◌+◌, ◌<◌, ◌≤◌, ◌≡◌, Bool, true, false, List, get_or, length}
use Rattle.paper_expressions.specs.Bytes.{Alike}
use Rattle.paper_expressions.specs.View.{At}
use Rattle.paper_expressions.proofs.Laws.Parentheses.{bare}
use Rattle.paper_guideline.specs.Structure
use Structure.{Name, Outermost, Assignment, Attribute, schedule_constraint, Task, DataItem, TopLevel, tasks, data_items}
use Rattle.paper_guideline.specs.Parts.{Typed, expressions, assignments, Component, Source, sources, sources_of}
use Rattle.paper_guideline.specs.Limits.{depth_limit}
use Rattle.paper_rows.specs.Load.{InstantiateComponent, SetTaskAttribute, SetComponentAttribute, InstantiateSource, InstantiateDataItem, sources_before}
use Rattle.paper_guideline.specs.Parts.{assignments_of}
use Rattle.paper_rows.proofs.Laws.Lists.{before}
use Rattle.paper_rows.proofs.Laws.Sized.{Sized}
use Rattle.parts.specs.Codes.{declared_code}
use Rattle.parts.specs.Texts.{text_at_fn}
use Rattle.parts.specs.Part.{Ends, Within}
use Rattle.parts.specs.Part as Parts
use Rattle.waits.specs.Twins.{marked, waiting, parent_at, first_at, count_at_fn, item_at, order_at}
use Rattle.operations.specs.Rows.{target_at, assign_at, assigns_at}
use Rattle.review.specs.Changes.{tasks_in}
use Rattle.planned.specs.Planned.{assigned_end, assigned_task}

-- a guideline within the limits, as its productions are
pub record Bounded (g : List TopLevel) : Type 0 where
  pub sized : Sized g
  pub deep : {i : ℕ} {x : Typed} → At (expressions g) i x → Within depth_limit (bare x.expression.tree)
  -- with a root, and no assertion without an assignment
  pub rooted : 0 < length (tasks g)
  pub asserted : {T i w : ℕ} {k : Task} {xs : List Assignment} → At (tasks g) T k → At k.attributes i (record { word = w; what = Structure.postcondition xs }) → 0 < length xs

-- ---- the numbers that stand for constants

abbrev pub class_code : Structure.Class → ℕ
class_code Structure.plan = 1
class_code Structure.action = 2
class_code Structure.enquiry = 3

-- 1 for yes, 2 for no
abbrev pub answer : Bool → ℕ
answer true = 1
answer false = 2

-- a component's confirmatory row: 1 for true, of an action; 2 for false
abbrev pub confirm_code : Structure.Class → ℕ
confirm_code Structure.plan = 2
confirm_code Structure.action = 1
confirm_code Structure.enquiry = 2

-- ---- the columns; f the plan, w who waits for whom, p the parts with the text bytes

-- of the tasks
pub record TasksTold (g : List TopLevel) (f : List ℕ) : Type 0 where
  pub number : tasks_in f ≡ length (tasks g)
  pub class : {T : ℕ} {k : Task} → At (tasks g) T k → get_or f (168 + T) 0 ≡ class_code k.class
  pub parent : {P T : ℕ} {a : Component} → InstantiateComponent g P a T → parent_at f T ≡ P + 1
  pub no_parent : {T : ℕ} → T < 32 → ((P : ℕ) (a : Component) → ¬ InstantiateComponent g P a T) → parent_at f T ≡ 0
  pub confirmatory : {P T : ℕ} {a : Component} {k : Task} → InstantiateComponent g P a T → At (tasks g) T k → get_or f (136 + T) 0 ≡ confirm_code k.class
  pub no_confirmatory : {T : ℕ} → T < 32 → ((P : ℕ) (a : Component) → ¬ InstantiateComponent g P a T) → get_or f (136 + T) 0 ≡ 0
  pub trigger : {T : ℕ} {n : Name} → SetTaskAttribute g T (Structure.trigger n) → get_or f (40 + T) 0 ≡ 1
  pub no_trigger : {T : ℕ} → T < 32 → ((n : Name) → ¬ SetTaskAttribute g T (Structure.trigger n)) → get_or f (40 + T) 0 ≡ 0
  pub terminal : {P T : ℕ} {b : Bool} → SetComponentAttribute g T P (Structure.terminal b) → get_or f (72 + T) 0 ≡ answer b
  pub no_terminal : {T : ℕ} → T < 32 → ((P : ℕ) (b : Bool) → ¬ SetComponentAttribute g T P (Structure.terminal b)) → get_or f (72 + T) 0 ≡ 0

-- of the order, parents first
pub record OrderTold (g : List TopLevel) (f : List ℕ) : Type 0 where
  pub every : {T : ℕ} → T < length (tasks g) → (k : ℕ) × (k < 32) × (order_at f k ≡ T)
  pub a_task : {k : ℕ} → k < 32 → order_at f k < length (tasks g)
  pub first : {k P : ℕ} → k < 32 → parent_at f (order_at f k) ≡ P + 1 → (j : ℕ) × (j < k) × (order_at f j ≡ P)

-- the component a of P, which is the task T, has a schedule constraint on the component b, which is the task A
pub record Constrained (g : List TopLevel) (T A : ℕ) : Type 0 where
  pub P : ℕ
  pub a : Component
  pub b : Component
  pub its : InstantiateComponent g P a T
  pub k : ℕ
  pub word : ℕ
  pub named : Name
  pub at : At a.attributes k (record { word = word; what = schedule_constraint named })
  pub other : InstantiateComponent g P b A
  pub names : b.named.spelt ≡ named.spelt

-- of who waits for whom
pub record WaitsTold (g : List TopLevel) (w : List (List Bool)) : Type 0 where
  pub marked_if : {T A : ℕ} → Constrained g T A → marked (waiting w T) A ≡ true
  pub if_marked : {T A : ℕ} → T < 32 → A < 32 → marked (waiting w T) A ≡ true → Constrained g T A

-- of the sources
pub record SourcesTold (g : List TopLevel) (f : List ℕ) : Type 0 where
  pub first : {T : ℕ} {k : Task} → At (tasks g) T k → first_at f T ≡ sources_before T (tasks g)
  pub count : {T : ℕ} {k : Task} → At (tasks g) T k → count_at_fn f T ≡ length (sources_of k)
  pub item : {c n d : ℕ} {s : Source} {x : DataItem} → InstantiateSource g c s n → InstantiateDataItem g x d → x.named.spelt ≡ s.named.spelt → item_at f n ≡ d
  pub mandatory : {c n k w : ℕ} {s : Source} {b : Bool} → InstantiateSource g c s n → At s.attributes k (record { word = w; what = Structure.mandatory b }) → get_or f (392 + n) 0 ≡ answer b
  pub no_mandatory : {c n : ℕ} {s : Source} → InstantiateSource g c s n → ((k w : ℕ) (b : Bool) → ¬ At s.attributes k (record { word = w; what = Structure.mandatory b })) → get_or f (392 + n) 0 ≡ 0

-- of the conditions of one kind, by the column that begins at d
pub record ConditionsTold (g : List TopLevel) (p : Parts.Table) (f : List ℕ) (d : ℕ) (kind : Outermost → Attribute) : Type 0 where
  pub ends : {T : ℕ} {x : Outermost} → SetTaskAttribute g T (kind x) → Ends p (get_or f (d + T) 0) (bare x.tree)
  pub none : {T : ℕ} → T < 32 → ((x : Outermost) → ¬ SetTaskAttribute g T (kind x)) → get_or f (d + T) 0 ≡ 0

-- of the assignments
pub record AssignmentsTold (g : List TopLevel) (p : Parts.Table) (f : List ℕ) : Type 0 where
  pub first : {T : ℕ} {k : Task} → At (tasks g) T k → assign_at f T ≡ before assignments_of T (tasks g)
  pub count : {T : ℕ} {k : Task} → At (tasks g) T k → assigns_at f T ≡ length (assignments_of k)
  pub target : {a d : ℕ} {x : Assignment} {y : DataItem} → At (assignments g) a x → At (data_items g) d y → Alike x.target.spelt y.named.spelt → target_at f a ≡ d
  pub no_target : {a : ℕ} → a < 256 → length (assignments g) ≤ a → target_at f a ≡ 0
  pub ends : {a : ℕ} {x : Assignment} → At (assignments g) a x → Ends p (assigned_end f a) (bare x.value.tree)
  pub by : {T i : ℕ} {k : Task} {x : Assignment} → At (tasks g) T k → At (assignments_of k) i x → assigned_task f (before assignments_of T (tasks g) + i) ≡ T

-- of the names of tasks and data items, and of triggers; the root has none
pub record NamesTold (g : List TopLevel) (p : Parts.Table) (f : List ℕ) : Type 0 where
  pub items : get_or f 1 0 ≡ length (data_items g)
  pub long : 1640 ≤ length f
  pub task_name : {T : ℕ} {k : Task} → 0 < T → At (tasks g) T k → text_at_fn p.bytes (get_or f (1192 + T) 0) ≡ k.named.spelt
  pub trigger-text : {T : ℕ} {n : Name} → SetTaskAttribute g T (Structure.trigger n) → text_at_fn p.bytes (get_or f (1224 + T) 0) ≡ n.spelt
  pub item_name : {d : ℕ} {x : DataItem} → At (data_items g) d x → text_at_fn p.bytes (get_or f (1256 + d) 0) ≡ x.named.spelt
  pub item_type : {d : ℕ} {x : DataItem} → At (data_items g) d x → get_or f (1320 + d) 0 ≡ declared_code x.declared

pub record Told (g : List TopLevel) (p : Parts.Table) (f : List ℕ) (w : List (List Bool)) : Type 0 where
  pub tasks : TasksTold g f
  pub order : OrderTold g f
  pub waits : WaitsTold g w
  pub sources : SourcesTold g f
  pub preconditions : ConditionsTold g p f 520 Structure.precondition
  pub wait_conditions : ConditionsTold g p f 552 Structure.wait_condition
  pub terminates : ConditionsTold g p f 584 Structure.terminate
  pub assignments : AssignmentsTold g p f
  pub names : NamesTold g p f
