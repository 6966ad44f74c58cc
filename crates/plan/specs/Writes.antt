-- What each row of a guideline writes to the plan, column by column, and who waits for whom: from the rows in their order. Definitions only.
-- A row writes by its kind, by what the rows before it count, and by the names of all tasks and data items.
use Rattle.std.specs.Prelude.{ℕ, zero, suc, ◌+◌, ◌-◌, Bool, true, false, cond, not, ◌&&◌, ◌||◌, List, [], ◌∷◌, eqb, ltb}
use Rattle.paper_expressions.proofs.Laws.Search.{sameb, alikeb}
use Rattle.paper_tokens.specs.Tokens
use Tokens.{“plan”, “action”, “enquiry”, “data”, “=”, “precondition”, “wait-condition”, “terminate”, “trigger”, “component”, “schedule-constraint”, “terminal”, “source”, “mandatory”}
use Rattle.paper_grammar.proofs.Laws.Ll.{is_in}
use Rattle.parts.specs.Texts.{text_at_fn}
use Rattle.row_names.specs.Sheet.{task_kind}
use Rattle.row_names.specs.Flat.{is_data}
use Rattle.row_tests.specs.Table.{cell_of}

-- ---- what is read: how many rows there are; of each its kind, its name, the handle of its name, where its expression ends, and its flag

pub record Outline : Type 0 where
  pub count : ℕ
  pub kind : ℕ → ℕ
  pub spelt : ℕ → List ℕ
  pub handle : ℕ → ℕ
  pub ends : ℕ → ℕ
  pub flag : ℕ → ℕ

-- of the first n rows of the table x, with the text bytes b
abbrev pub outline : List ℕ → ℕ → List ℕ → Outline
outline x n b = record {
  count = n;
  kind = λ i. cell_of x i 0;
  spelt = λ i. text_at_fn b (cell_of x i 2);
  handle = λ i. cell_of x i 2;
  ends = λ i. cell_of x i 6;
  flag = λ i. cell_of x i 7;
}

-- ---- the columns: where each begins, and how many cells it has

pub data Column : Type 0 where
  task_count item_count : Column
  parent triggered terminal order confirms class first_source source_count : Column
  source_item mandatory : Column
  precondition wait_condition terminate first_assignment assignment_count : Column
  target assigned-end : Column
  name trigger : Column
  item_name item_type : Column
  assigned_by : Column

abbrev pub first : Column → ℕ
first task_count = 0
first item_count = 1
first parent = 8
first triggered = 40
first terminal = 72
first order = 104
first confirms = 136
first class = 168
first first_source = 200
first source_count = 232
first source_item = 264
first mandatory = 392
first precondition = 520
first wait_condition = 552
first terminate = 584
first first_assignment = 616
first assignment_count = 648
first target = 680
first assigned-end = 936
first name = 1192
first trigger = 1224
first item_name = 1256
first item_type = 1320
first assigned_by = 1384

-- of the column that begins at a: 32 tasks, 64 data items, 128 sources, 256 assignments
abbrev pub room_at : ℕ → ℕ
room_at a =
    cond (is_in a (0 ∷ 1 ∷ [])) 1
    (cond (is_in a (1256 ∷ 1320 ∷ [])) 64 (cond (is_in a (264 ∷ 392 ∷ [])) 128 (cond (is_in a (680 ∷ 936 ∷ 1384 ∷ [])) 256 32)))

abbrev pub room : Column → ℕ
room p = room_at (first p)

-- ---- entries: a value for the i-th cell of a column

pub record Entry : Type 0 where
  pub column : Column
  pub index : ℕ
  pub value : ℕ

abbrev pub enter : Column → ℕ → ℕ → Entry
enter p i v = record { column = p; index = i; value = v }

abbrev pub Cells : Type 0
Cells = Column → ℕ → ℕ

abbrev pub write : Entry → Cells → Cells
write e m p i = cond (eqb (first e.column) (first p) && eqb e.index i) e.value (m p i)

abbrev pub store : List Entry → Cells → Cells
store [] m = m
store (e ∷ es) m = store es (write e m)

-- ---- what the rows before a row count

abbrev pub one_if : Bool → ℕ
one_if true = 1
one_if false = 0

-- the rows before k whose kind passes
abbrev pub counted : (ℕ → Bool) → (ℕ → ℕ) → ℕ → ℕ
counted c kind zero = 0
counted c kind (suc k) = counted c kind k + one_if (c (kind k))

-- the first below n that passes, or n
abbrev pub first_that : (ℕ → Bool) → ℕ → ℕ
first_that c zero = 0
first_that c (suc n) = cond (ltb (first_that c n) n) (first_that c n) (cond (c n) n (suc n))

abbrev pub is_source : ℕ → Bool
is_source k = eqb k “source”

abbrev pub is_assignment : ℕ → Bool
is_assignment k = eqb k “=”

module _ (s : Outline) where
  abbrev pub tasks_before : ℕ → ℕ
  tasks_before k = counted task_kind s.kind k

  abbrev pub items_before : ℕ → ℕ
  items_before k = counted is_data s.kind k

  abbrev pub sources_before : ℕ → ℕ
  sources_before k = counted is_source s.kind k

  abbrev pub assignments_before : ℕ → ℕ
  assignments_before k = counted is_assignment s.kind k

  -- how many there were where the last task began
  abbrev pub at_task : (ℕ → Bool) → ℕ → ℕ
  at_task c zero = 0
  at_task c (suc k) = cond (task_kind (s.kind k)) (counted c s.kind k) (at_task c k)

  -- ---- names: the task, and the data item, of a name; case aside in assignments

  abbrev pub task_row : List ℕ → ℕ
  task_row w = first_that (λ (i : ℕ). task_kind (s.kind i) && sameb (s.spelt i) w) s.count

  abbrev pub task_named : List ℕ → ℕ
  task_named w = tasks_before (task_row w)

  abbrev pub item_named : List ℕ → ℕ
  item_named w = items_before (first_that (λ (i : ℕ). is_data (s.kind i) && sameb (s.spelt i) w) s.count)

  abbrev pub item_alike : List ℕ → ℕ
  item_alike w = items_before (first_that (λ (i : ℕ). is_data (s.kind i) && alikeb (s.spelt i) w) s.count)

  -- the task that the last component names
  abbrev pub child : ℕ → ℕ
  child zero = 0
  child (suc k) = cond (eqb (s.kind k) “component”) (task_named (s.spelt k)) (child k)

-- ---- what a row writes

-- tasks with their class: 1 plan, 2 action, 3 enquiry
pub data Sort : Type 0 where
  a_task : ℕ → Sort
  a_data_item a_precondition a_wait_condition a_terminate a_trigger a_component a_terminal a_source a_mandatory an_assignment another : Sort

abbrev pub sort_of : ℕ → Sort
sort_of k =
    cond (eqb k “plan”) (a_task 1)
    (cond (eqb k “action”) (a_task 2)
    (cond (eqb k “enquiry”) (a_task 3)
    (cond (eqb k “data”) a_data_item
    (cond (eqb k “precondition”) a_precondition
    (cond (eqb k “wait-condition”) a_wait_condition
    (cond (eqb k “terminate”) a_terminate
    (cond (eqb k “trigger”) a_trigger
    (cond (eqb k “component”) a_component
    (cond (eqb k “terminal”) a_terminal
    (cond (eqb k “source”) a_source
    (cond (eqb k “mandatory”) a_mandatory
    (cond (eqb k “=”) an_assignment another))))))))))))

-- an answer as a flag: 1 for yes, 2 for no
abbrev pub answer : Bool → ℕ
answer b = cond b 1 2

module _ (s : Outline) where
  abbrev pub entries_of : ℕ → Sort → List Entry
  entries_of k (a_task c) =
      enter task_count 0 (tasks_before s k + 1)
      ∷ enter class (tasks_before s k) c
      ∷ enter first_source (tasks_before s k) (sources_before s k)
      ∷ enter first_assignment (tasks_before s k) (assignments_before s k)
      ∷ enter name (tasks_before s k) (cond (eqb (tasks_before s k) 0) 0 (s.handle k))
      ∷ []
  entries_of k a_data_item =
      enter item_count 0 (items_before s k + 1)
      ∷ enter item_name (items_before s k) (s.handle k)
      ∷ enter item_type (items_before s k) (s.flag k)
      ∷ []
  entries_of k a_precondition = enter precondition (tasks_before s k - 1) (s.ends k) ∷ []
  entries_of k a_wait_condition = enter wait_condition (tasks_before s k - 1) (s.ends k) ∷ []
  entries_of k a_terminate = enter terminate (tasks_before s k - 1) (s.ends k) ∷ []
  entries_of k a_trigger = enter triggered (tasks_before s k - 1) 1 ∷ enter trigger (tasks_before s k - 1) (s.handle k) ∷ []
  entries_of k a_component =
      enter parent (task_named s (s.spelt k)) (tasks_before s k)
      ∷ enter confirms (task_named s (s.spelt k)) (answer (eqb (s.kind (task_row s (s.spelt k))) “action”))
      ∷ []
  entries_of k a_terminal = enter terminal (child s k) (s.flag k) ∷ []
  entries_of k a_source =
      enter source_item (sources_before s k) (item_named s (s.spelt k))
      ∷ enter source_count (tasks_before s k - 1) (sources_before s k + 1 - at_task s is_source k)
      ∷ []
  entries_of k a_mandatory = enter mandatory (sources_before s k - 1) (s.flag k) ∷ []
  entries_of k an_assignment =
      enter target (assignments_before s k) (item_alike s (s.spelt k))
      ∷ enter assigned-end (assignments_before s k) (s.ends k)
      ∷ enter assigned_by (assignments_before s k) (tasks_before s k - 1)
      ∷ enter assignment_count (tasks_before s k - 1) (assignments_before s k + 1 - at_task s is_assignment k)
      ∷ []
  entries_of k another = []

  abbrev pub entries : ℕ → List Entry
  entries k = entries_of k (sort_of (s.kind k))

  -- the cells after the rows before k
  abbrev pub plan_f : ℕ → Cells
  plan_f zero p i = 0
  plan_f (suc k) p i = store (entries k) (plan_f k) p i

  -- T waits for A by one of the rows before k: a schedule_constraint of the component that names T, with the name of A
  abbrev pub waits_f : ℕ → ℕ → ℕ → Bool
  waits_f zero T A = false
  waits_f (suc k) T A = (eqb (s.kind k) “schedule-constraint” && (eqb (child s k) T && eqb (task_named s (s.spelt k)) A)) || waits_f k T A

-- ---- the order of the n tasks: next is the first that is not placed and whose parent is placed, or that has none
-- the column of parents holds the parent and one, or 0

abbrev pub ready : (ℕ → ℕ) → (ℕ → Bool) → ℕ → Bool
ready parents placed T = not (placed T) && (eqb (parents T) 0 || placed (parents T - 1))

module _ (parents : ℕ → ℕ) (n : ℕ) where
  abbrev pub placed : ℕ → ℕ → Bool
  placed zero T = false
  placed (suc k) T = eqb (first_that (ready parents (placed k)) n) T || placed k T

  abbrev pub next : ℕ → ℕ
  next k = first_that (ready parents (placed k)) n

  -- the k-th task; behind the last one the root again
  abbrev pub order_f : ℕ → ℕ
  order_f k = cond (ltb (next k) n) (next k) 0

-- ---- the plan

abbrev pub plan : Outline → Cells
plan s p i = cond (eqb (first order) (first p)) (order_f (plan_f s s.count parent) (tasks_before s s.count) i) (plan_f s s.count p i)

abbrev pub waits : Outline → ℕ → ℕ → Bool
waits s T A = waits_f s s.count T A
