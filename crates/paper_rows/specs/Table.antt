-- The Properties table: component identifiers (7.1), property names and their allowed values (section 10), values (7.4), rows (8.1, 8.2), and what evaluation reads of it. Definitions only.
-- "Decided" marks what docs/DECISIONS.md rules; "left out (10)" what a guideline is refused for, with the request that brings it.
use Rattle.std.specs.Prelude.{ℕ, suc, ◌≡◌, ◌↔◌, Bool, true, false, List, [], ◌∷◌, ℤ, pos}
use Rattle.std.proofs.Math.Option.{Option, none, some}
use Rattle.paper_expressions.specs.Values.{Value, one, unknown, truth, integer, text, TaskState}
use Rattle.paper_expressions.specs.Types.{Declared}
use Rattle.paper_expressions.specs.Expressions.{Expr}
use Rattle.paper_expressions.specs.View.{Item, View, At}
use Rattle.paper_expressions.specs.View as Views

-- ---- 7.1, b: component identifiers; 01: "Components are given by kind and number", "kinds rank as in section 10"

pub data Kind : Type 0 where
  task data_item candidate argument parameter source warning_condition : Kind
  deriving Discrete as Kind-discrete

unfoldable pub kinds : List Kind
kinds = task ∷ data_item ∷ candidate ∷ argument ∷ parameter ∷ source ∷ warning_condition ∷ []

infix 80 ◌№◌
pub data Component : Type 0 where
  ◌№◌ : Kind → ℕ → Component
  deriving Discrete as Component-discrete

-- ---- section 10: the names of properties, in the order of its tables      (decided: a name that comes again keeps its first place)

pub data Property : Type 0 where
  -- 10.1
  class name caption actual_caption description actual_description : Property
  -- 10.2      (decided: its current_cycle is cycle_count, as 01 has it for 8.6.7)
  state antecedent_tasks goal precondition wait_condition trigger trigger_active postcondition parameters parent_plan confirmatory confirmed : Property
  cycle_count nbr_cycles_value nbr_cycles_expression cycle_until cycle_interval cycle_interval_units start_at optional terminal lwth context : Property
  in_progress_time discarded_time completed_time : Property
  -- 10.3
  terminate_condition abort_condition : Property
  -- 10.4
  candidates sources support_mode choice_mode result : Property
  -- 10.5
  procedure actual_procedure : Property
  -- 10.6: sources
  -- 10.7
  type value range_values range_expressions default_value mandatory_validation warning_conditions derivation_rule unit requested : Property
  -- 10.8
  recommendation priority arguments : Property
  -- 10.9
  support expression : Property
  -- 10.10: value, expression
  -- 10.11
  data_item_of mandatory : Property
  -- 10.12: expression
  activated : Property

unfoldable pub properties : List Property
properties =
    class ∷ name ∷ caption ∷ actual_caption ∷ description ∷ actual_description
    ∷ state ∷ antecedent_tasks ∷ goal ∷ precondition ∷ wait_condition ∷ trigger ∷ trigger_active ∷ postcondition ∷ parameters ∷ parent_plan ∷ confirmatory ∷ confirmed
    ∷ cycle_count ∷ nbr_cycles_value ∷ nbr_cycles_expression ∷ cycle_until ∷ cycle_interval ∷ cycle_interval_units ∷ start_at ∷ optional ∷ terminal ∷ lwth ∷ context
    ∷ in_progress_time ∷ discarded_time ∷ completed_time
    ∷ terminate_condition ∷ abort_condition
    ∷ candidates ∷ sources ∷ support_mode ∷ choice_mode ∷ result
    ∷ procedure ∷ actual_procedure
    ∷ type ∷ value ∷ range_values ∷ range_expressions ∷ default_value ∷ mandatory_validation ∷ warning_conditions ∷ derivation_rule ∷ unit ∷ requested
    ∷ recommendation ∷ priority ∷ arguments
    ∷ support ∷ expression
    ∷ data_item_of ∷ mandatory
    ∷ activated
    ∷ []

-- ---- 7.1, f: the class of a component      (10.1 lists the same but generic_task; the argument of 12.7: left out (10), request 1/13)

pub data Class : Type 0 where
  a_data_item a_generic_task a_plan a_decision an_enquiry an_action a_source a_candidate a_parameter a_warning_flag : Class
  deriving Discrete as Class-discrete

-- Definition 4: a task is one of
pub data TaskClass : Class → Type 0 where
  generic_is_task : TaskClass a_generic_task
  plan_is_task : TaskClass a_plan
  enquiry_is_task : TaskClass an_enquiry
  decision_is_task : TaskClass a_decision
  action_is_task : TaskClass an_action

-- ---- 7.4: the values that a row holds

-- 7.3: one assignment of an assertion (3.2)
pub record Assigns : Type 0 where
  pub target : List ℕ
  pub assigned : Expr

pub data RowValue : Type 0 where
  -- 1. unknown   2. true, false   4. a number   5. a text string   7. a sequence of these
  value_is : Value → RowValue
  -- 3. the constants: the states of a task (7.5), the classes of a component      (symbolic, multiple, for and their fellows: left out (10), request 1/13)
  state_is : TaskState → RowValue
  class_is : Class → RowValue
  -- 10.7: the type of a data item, "One of text, integer, .."
  type_is : Declared → RowValue
  -- 4. an engine time; 01: "Engine time is a whole number of seconds"      (decided: a kind of value of its own, for it passes the integer limit)
  time_is : ℕ → RowValue
  -- 5. ".. which may, in some cases be a PROforma expression", or an assertion (7.3)
  expression_is : Expr → RowValue
  assertion_is : List Assigns → RowValue
  -- 6. a component identifier
  component_is : Component → RowValue
  -- 7. a sequence of component identifiers
  components_are : List Component → RowValue

abbrev pub unknown_row : RowValue
unknown_row = value_is (one unknown)

abbrev pub truth_row : Bool → RowValue
truth_row b = value_is (one (truth b))

abbrev pub integer_row : ℤ → RowValue
integer_row n = value_is (one (integer n))

abbrev pub text_row : List ℕ → RowValue
text_row s = value_is (one (text s))

-- ---- section 10: the allowed values of each property that has rows in the first edition

-- "A sequence of task identifiers", of source identifiers
pub data AllOf (k : Kind) : List Component → Type 0 where
  all_of_none : AllOf k []
  all_of_more : {n : ℕ} {l : List Component} → AllOf k l → AllOf k (k № n ∷ l)

pub data Allowed : Property → RowValue → Type 0 where
  -- "The constant unknown is an allowed value of all properties."
  allowed_unknown : {p : Property} → Allowed p unknown_row
  -- 10.1
  allowed_class : {k : Class} → Allowed class (class_is k)
  allowed_name : {s : List ℕ} → Allowed name (text_row s)
  -- 10.2      (an expression's type is refusal 5's matter)
  allowed_state : {s : TaskState} → Allowed state (state_is s)
  allowed_antecedents : {l : List Component} → AllOf task l → Allowed antecedent_tasks (components_are l)
  allowed_precondition : {e : Expr} → Allowed precondition (expression_is e)
  allowed_wait_condition : {e : Expr} → Allowed wait_condition (expression_is e)
  allowed_trigger : {s : List ℕ} → Allowed trigger (text_row s)
  allowed_trigger_active : {b : Bool} → Allowed trigger_active (truth_row b)
  allowed_postcondition : {l : List Assigns} → Allowed postcondition (assertion_is l)
  allowed_parent : {n : ℕ} → Allowed parent_plan (component_is (task № n))
  allowed_confirmatory : {b : Bool} → Allowed confirmatory (truth_row b)
  allowed_confirmed : {b : Bool} → Allowed confirmed (truth_row b)
  -- "Any positive integer"; 8.5.2, 2 adds 0      (decided: no negative one)
  allowed_count : {n : ℕ} → Allowed cycle_count (integer_row (pos n))
  -- "Any positive integer"
  allowed_cycles : {n : ℕ} → Allowed nbr_cycles_value (integer_row (pos (suc n)))
  -- "Any floating point number": an engine time
  allowed_start_at : {n : ℕ} → Allowed start_at (time_is n)
  allowed_terminal : {b : Bool} → Allowed terminal (truth_row b)
  allowed_in_progress_time : {n : ℕ} → Allowed in_progress_time (time_is n)
  allowed_discarded_time : {n : ℕ} → Allowed discarded_time (time_is n)
  allowed_completed_time : {n : ℕ} → Allowed completed_time (time_is n)
  -- 10.3
  allowed_terminate : {e : Expr} → Allowed terminate_condition (expression_is e)
  -- 10.5
  allowed_procedure : {s : List ℕ} → Allowed actual_procedure (text_row s)
  -- 10.6
  allowed_sources : {l : List Component} → AllOf source l → Allowed sources (components_are l)
  -- 10.7      (of "Any PROforma value", those that an expression comes to or a call adds)
  allowed_type : {d : Declared} → Allowed type (type_is d)
  allowed_value : {w : Value} → Allowed value (value_is w)
  allowed_requested : {b : Bool} → Allowed requested (truth_row b)
  -- 10.11
  allowed_data_item : {n : ℕ} → Allowed data_item_of (component_is (data_item № n))
  allowed_mandatory : {b : Bool} → Allowed mandatory (truth_row b)
  -- the other properties have no rows: captions and descriptions (01), warning conditions (no production has one: decided), and what is left out (10):
  -- requests 1/13 (10.4, 10.8, 10.9), 4/13 (the expressions of cycles), 8/13 (parameters, 10.10), 9/13 (range); the rest no request brings

-- ---- 8.1: "the Properties table is a function which is a subset of (C × P) → V"

abbrev pub Table : Type 0
Table = Component → Property → Option RowValue

-- the Properties table contains the row (C, P, V)
abbrev pub Contains : Table → Component → Property → RowValue → Type 0
Contains t c p r = t c p ≡ some r

-- 8.2, Definitions 4 and 5: T is a task identifier
pub record TaskId (t : Table) (T : ℕ) : Type 0 where
  pub its : Class
  pub row : Contains t (task № T) class (class_is its)
  pub task_class : TaskClass its

-- Definition 6: D is a data item identifier
abbrev pub DataItemId : Table → ℕ → Type 0
DataItemId t d = Contains t (data_item № d) class (class_is a_data_item)

-- ---- what evaluation reads of the table (9.2, 9.5, 9.6, 9.7, 11.2.10)

-- (D, value, V), if there
pub data ValueRow : Option RowValue → Option Value → Type 0 where
  no_value : ValueRow none none
  a_value : {w : Value} → ValueRow (some (value_is w)) (some w)

pub record ItemRows (t : Table) (d : ℕ) (x : Item) : Type 0 where
  pub class_row : DataItemId t d
  pub name_row : Contains t (data_item № d) name (text_row x.name)
  pub type_row : Contains t (data_item № d) type (type_is x.declared)
  pub value_row : ValueRow (t (data_item № d) value) x.value

-- (C, name, A), if there
pub data NameRow : Option RowValue → Option (List ℕ) → Type 0 where
  no_name : NameRow none none
  a_name : {s : List ℕ} → NameRow (some (text_row s)) (some s)

-- (C, parent_plan, P), if there
pub data ParentRow : Option RowValue → Option ℕ → Type 0 where
  no_parent : ParentRow none none
  a_parent : {p : ℕ} → ParentRow (some (component_is (task № p))) (some p)

-- (C, state, ..), if there; 01: "A task whose state a collision has made unknown is in none of the four states"
pub data StateRow : Option RowValue → Option TaskState → Type 0 where
  no_state : StateRow none none
  in_state : {s : TaskState} → StateRow (some (state_is s)) (some s)
  in_none : StateRow (some unknown_row) none

pub record TaskRows (t : Table) (c : ℕ) (x : Views.Task) : Type 0 where
  pub task_id : TaskId t c
  pub name_row : NameRow (t (task № c) name) x.name
  pub parent_row : ParentRow (t (task № c) parent_plan) x.parent
  pub state_row : StateRow (t (task № c) state) x.state

-- v is the view of t: its items and tasks are those of the table, by number
pub record ViewOf (t : Table) (v : View) : Type 0 where
  pub items : (d : ℕ) (x : Item) → At v.items d x ↔ ItemRows t d x
  pub tasks : (c : ℕ) (x : Views.Task) → At v.tasks c x ↔ TaskRows t c x
