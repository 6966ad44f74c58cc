-- The public calls (8.3; document 01): load, run, set the engine time, confirm, add, send a trigger, read a row; with every refusal, and the lent Changes table. Definitions only.
use Rattle.std.specs.Prelude.{ℕ, ◌≤◌, ◌<◌, ◌≡◌, Bool, true, false, List, [], ◌∷◌, ℤ, length}
use Rattle.std.proofs.Math.Option.{Option, none, some}
use Rattle.paper_expressions.specs.Limits.{list_limit, text_limit}
use Rattle.paper_expressions.specs.Values.{Scalar, unknown, truth, integer, real, text, Value, one, sequence, TaskState, in_progress, InLimit, InRealLimit}
use Rattle.paper_expressions.specs.Types.{Declared, inferred, Of}
use Rattle.paper_expressions.specs.View.{At}
use Rattle.paper_guideline.specs.Structure.{TopLevel}
use Rattle.paper_guideline.specs.Refusals.{Read, Refused, Answers, loads, refused}
use Rattle.paper_rows.specs.Table
use Table.{Kind, kinds, task, data_item, Component, ◌№◌, Property, properties, state, trigger, trigger_active, parent_plan, confirmed, type, value, requested, Class}
use Table.{RowValue, value_is, state_is, class_is, type_is, time_is, expression_is, assertion_is, component_is, components_are, truth_row, text_row, Table, Contains, TaskId, DataItemId, Assigns}
use Rattle.paper_rows.specs.Load.{Initial}
use Rattle.paper_rows.specs.Bare.{bare_guideline}
use Rattle.paper_engine.specs.Cycle.{Report, Runs}
use Rattle.paper_expressions.specs.Expressions.{Expr}

-- ---- 8.1: the state of a guideline; 01: "A series of calls starts from an empty guideline"

-- structure: the guideline itself, as Bare has it; the Changes table is empty between calls, and the lent one is below      (01: no random number)
pub record Guideline : Type 0 where
  pub structure : List TopLevel
  pub table : Table
  pub flag : Bool
  pub time : ℕ

pub data State : Type 0 where
  empty : State
  loaded : Guideline → State

-- ---- the replies

-- "Reading a row that isn't there, or of no component, answers "no row"; a row that load sets to an expression or a list of components answers only that it is there."
pub data Shown : Type 0 where
  no_row there : Shown
  shows_value : Value → Shown
  shows_state : TaskState → Shown
  shows_class : Class → Shown
  shows_type : Declared → Shown
  shows_time : ℕ → Shown
  shows_component : Component → Shown

pub data Reply : Type 0 where
  done : Reply
  ran : Report → Reply
  row : Shown → Reply
  -- the number, the place and the count: "Other calls .. return place 0 and count 0"
  refuses : ℕ → ℕ → ℕ → Reply

-- ---- the limits of calls (document 01, How much fits)

-- "cycles in one run 0 to 256"
abbrev pub cycle_limit : ℕ
cycle_limit = 256

-- "Engine time is a whole number of seconds, 0 to 4,294,967,295"
abbrev pub time_limit : ℕ
time_limit = 4_294_967_295

-- "The Changes table is a list of rows lent by the caller, at least 1,024 long"
abbrev pub changes_least : ℕ
changes_least = 1024

-- "text or name 48 bytes between its quotes, none over 127"
pub record SmallText (s : List ℕ) : Type 0 where
  pub short : length s ≤ text_limit
  pub ascii : {i b : ℕ} → At s i b → b ≤ 127

pub data SmallScalar : Scalar → Type 0 where
  small_unknown : SmallScalar unknown
  small_truth : {b : Bool} → SmallScalar (truth b)
  small_integer : {n : ℤ} → InLimit n → SmallScalar (integer n)
  small_real : {n : ℤ} → InRealLimit n → SmallScalar (real n)
  small_text : {s : List ℕ} → SmallText s → SmallScalar (text s)

-- "A value .. given is subject to the limits (6)"
pub data Small : Value → Type 0 where
  small_one : {s : Scalar} → SmallScalar s → Small (one s)
  small_list : {l : List Scalar} → length l ≤ list_limit → ((i : ℕ) (s : Scalar) → At l i s → SmallScalar s) → Small (sequence l)

-- ---- the rows that a call sets. (C, P, some V): "If the Properties Table contains a row (C, P, V') .. then remove that row", and add (C, P, V);
-- (C, P, none): remove it, and add none (8.3.5, 1 and 2: left out (10); request 1/13)

abbrev pub Sets : Type 1
Sets = Component → Property → Option RowValue → Type 0

-- what the table holds for (C, P), before and after
pub data Replaced (sets : Sets) (c : Component) (p : Property) (before : Option RowValue) : Option RowValue → Type 0 where
  replaced : {after : Option RowValue} → sets c p after → Replaced sets c p before after
  kept : ((after : Option RowValue) → ¬ sets c p after) → Replaced sets c p before before

abbrev pub Replaces : Sets → Table → Table → Type 0
Replaces sets t t' = (c : Component) (p : Property) → Replaced sets c p (t c p) (t' c p)

-- 8.3.4  ConfirmTask(T): 1. remove (T, confirmed, V)   2. Add (T, confirmed, true)
pub data ConfirmTask (T : ℕ) : Component → Property → Option RowValue → Type 0 where
  confirm_2 : ConfirmTask T (task № T) confirmed (some (truth_row true))

-- 8.3.6  AddDataValue(D, V), D a data item      (a parameter: left out (10); request 8/13): 1. remove (D, value, V')   2. Add the rows (D, value, V) and (D, requested, false); 01: "an added value [replaces] the requested row"
--   3. mandatory_validation: left out (10)      4. warning conditions: no production has one (decided)
pub data AddDataValue (d : ℕ) (w : Value) : Component → Property → Option RowValue → Type 0 where
  add_2a : AddDataValue d w (data_item № d) value (some (value_is w))
  add_2b : AddDataValue d w (data_item № d) requested (some (truth_row false))

-- 8.3.7  SendTrigger(Trig): for each task identifier T such that the Properties Table contains (T, trigger, Trig) and there exists a task identifier P such that
-- it contains (T, parent_plan, P) and (P, state, in_progress): add (T, trigger_active, true); 01: "a trigger replaces the trigger_active row"
pub data SendTrigger (t : Table) (trig : List ℕ) : Component → Property → Option RowValue → Type 0 where
  trigger_1 : {T P : ℕ} → Contains t (task № T) trigger (text_row trig)
      → Contains t (task № T) parent_plan (component_is (task № P)) → Contains t (task № P) state (state_is in_progress)
      → SendTrigger t trig (task № T) trigger_active (some (truth_row true))

-- ---- reading a row

-- how a row of the property p that holds a value answers      (request 1/13: a result row, which no load sets, shows its list)
pub data ShownAs (p : Property) : RowValue → Shown → Type 0 where
  shown_value : {w : Value} → ShownAs p (value_is w) (shows_value w)
  shown_state : {s : TaskState} → ShownAs p (state_is s) (shows_state s)
  shown_class : {k : Class} → ShownAs p (class_is k) (shows_class k)
  shown_type : {d : Declared} → ShownAs p (type_is d) (shows_type d)
  shown_time : {n : ℕ} → ShownAs p (time_is n) (shows_time n)
  shown_component : {c : Component} → ShownAs p (component_is c) (shows_component c)
  there_expression : {e : Expr} → ShownAs p (expression_is e) there
  -- an assertion is made of expressions      (decided)
  there_assertion : {l : List Assigns} → ShownAs p (assertion_is l) there
  there_components : {l : List Component} → ShownAs p (components_are l) there

-- the row of the component of the k-th kind and the number n, and of the p-th property
pub record RowAt (t : Table) (k n p : ℕ) (q : Property) (r : RowValue) : Type 0 where
  pub kind : Kind
  pub kind_at : At kinds k kind
  pub property_at : At properties p q
  pub row : Contains t (kind № n) q r

pub data Reads (t : Table) (k n p : ℕ) : Shown → Type 0 where
  a_row : {q : Property} {r : RowValue} {s : Shown} → RowAt t k n p q r → ShownAs q r s → Reads t k n p s
  without_row : ((q : Property) (r : RowValue) → ¬ RowAt t k n p q r) → Reads t k n p no_row

-- ---- the calls, with what they are given

pub data Call : Type 0 where
  -- the text; whether some lent table is too short
  load : List ℕ → Bool → Call
  -- the bound; the length of the lent Changes table
  run : ℕ → ℕ → Call
  set_engine_time : ℕ → Call
  confirm_task : ℕ → Call
  -- the data item; the value, or none for an argument that encodes no value
  add_data_value : ℕ → Option Value → Call
  send_trigger : List ℕ → Call
  -- kind, number, property
  read_row : ℕ → ℕ → ℕ → Call

-- 7: "nothing is loaded, or the Exception flag is set"
pub data Unready : State → Type 0 where
  nothing_loaded : Unready empty
  flag_set : {g : Guideline} → g.flag ≡ true → Unready (loaded g)

abbrev with_table : Guideline → Table → State
with_table g t = loaded (record { structure = g.structure; table = t; flag = g.flag; time = g.time })

abbrev refusal : ℕ → Reply
refusal n = refuses n 0 0

-- Calls c s r s': the call c in the state s has the reply r and leaves the state s'. "Other calls test 7, 8, 9, 6 in that order .. and change no byte."
pub data Calls : Call → State → Reply → State → Type 0 where
  -- ---- load (8.3.1; 12.1, 2. Set the Exception flag to false): "An accepted load starts afresh, at engine time 0."
  load_done : {text : List ℕ} {short : Bool} {s : State} {g : List TopLevel} {t : Table}
      → Answers (short ≡ true) text loads → Read text g → Initial (bare_guideline g) t
      → Calls (load text short) s done (loaded (record { structure = bare_guideline g; table = t; flag = false; time = 0 }))
  -- "A refused load returns number and place and leaves an empty guideline"
  load_refused : {text : List ℕ} {short : Bool} {s : State} {n p : ℕ} → Answers (short ≡ true) text (refused n p) → Calls (load text short) s (refuses n p 0) empty
  -- ---- run (8.3.2)
  run_7 : {s : State} {n lent : ℕ} → Unready s → Calls (run n lent) s (refusal 7) s
  run_6_bound : {g : Guideline} {n lent : ℕ} → ¬ Unready (loaded g) → cycle_limit < n → Calls (run n lent) (loaded g) (refusal 6) (loaded g)
  run_6_lent : {g : Guideline} {n lent : ℕ} → ¬ Unready (loaded g) → lent < changes_least → Calls (run n lent) (loaded g) (refusal 6) (loaded g)
  run_done : {g : Guideline} {n lent : ℕ} {t : Table} {f : Bool} {r : Report} → ¬ Unready (loaded g) → n ≤ cycle_limit → changes_least ≤ lent
      → Runs g.time n 0 (record { table = g.table; flag = g.flag }) (record { table = t; flag = f }) r
      → Calls (run n lent) (loaded g) (ran r) (loaded (record { structure = g.structure; table = t; flag = f; time = g.time }))
  -- ---- SetEngineTime (8.3.3): 1. Set the EngineTime to X
  time_7 : {s : State} {x : ℕ} → Unready s → Calls (set_engine_time x) s (refusal 7) s
  time_6 : {g : Guideline} {x : ℕ} → ¬ Unready (loaded g) → time_limit < x → Calls (set_engine_time x) (loaded g) (refusal 6) (loaded g)
  time_done : {g : Guideline} {x : ℕ} → ¬ Unready (loaded g) → x ≤ time_limit
      → Calls (set_engine_time x) (loaded g) done (loaded (record { structure = g.structure; table = g.table; flag = g.flag; time = x }))
  -- ---- ConfirmTask (8.3.4)
  confirm_7 : {s : State} {T : ℕ} → Unready s → Calls (confirm_task T) s (refusal 7) s
  -- 8: "a confirm names no task"
  confirm_8 : {g : Guideline} {T : ℕ} → ¬ Unready (loaded g) → ¬ TaskId g.table T → Calls (confirm_task T) (loaded g) (refusal 8) (loaded g)
  confirm_done : {g : Guideline} {T : ℕ} {t : Table} → ¬ Unready (loaded g) → TaskId g.table T → Replaces (ConfirmTask T) g.table t
      → Calls (confirm_task T) (loaded g) done (with_table g t)
  -- ---- AddDataValue (8.3.6)
  add_7 : {s : State} {d : ℕ} {w : Option Value} → Unready s → Calls (add_data_value d w) s (refusal 7) s
  -- 8: "an added value no data item"
  add_8 : {g : Guideline} {d : ℕ} {w : Option Value} → ¬ Unready (loaded g) → ¬ DataItemId g.table d → Calls (add_data_value d w) (loaded g) (refusal 8) (loaded g)
  -- 9: "the value is not unknown and not of the item's declared type"
  add_9 : {g : Guideline} {d : ℕ} {w : Value} {k : Declared} → ¬ Unready (loaded g) → DataItemId g.table d
      → Contains g.table (data_item № d) type (type_is k) → ¬ Of w (inferred k) → Calls (add_data_value d (some w)) (loaded g) (refusal 9) (loaded g)
  -- what encodes no value is of no type      (decided)
  add_9_none : {g : Guideline} {d : ℕ} → ¬ Unready (loaded g) → DataItemId g.table d → Calls (add_data_value d none) (loaded g) (refusal 9) (loaded g)
  add_6 : {g : Guideline} {d : ℕ} {w : Value} {k : Declared} → ¬ Unready (loaded g) → DataItemId g.table d
      → Contains g.table (data_item № d) type (type_is k) → Of w (inferred k) → ¬ Small w → Calls (add_data_value d (some w)) (loaded g) (refusal 6) (loaded g)
  add_done : {g : Guideline} {d : ℕ} {w : Value} {k : Declared} {t : Table} → ¬ Unready (loaded g) → DataItemId g.table d
      → Contains g.table (data_item № d) type (type_is k) → Of w (inferred k) → Small w → Replaces (AddDataValue d w) g.table t
      → Calls (add_data_value d (some w)) (loaded g) done (with_table g t)
  -- ---- SendTrigger (8.3.7): "A trigger that no task has is done and changes nothing."
  trigger_7 : {s : State} {trig : List ℕ} → Unready s → Calls (send_trigger trig) s (refusal 7) s
  trigger_6 : {g : Guideline} {trig : List ℕ} → ¬ Unready (loaded g) → ¬ SmallText trig → Calls (send_trigger trig) (loaded g) (refusal 6) (loaded g)
  trigger_done : {g : Guideline} {trig : List ℕ} {t : Table} → ¬ Unready (loaded g) → SmallText trig → Replaces (SendTrigger g.table trig) g.table t
      → Calls (send_trigger trig) (loaded g) done (with_table g t)
  -- ---- reading a row: 7 with nothing loaded (decided); "a row may still be read then", after an exception
  read_7 : {k n p : ℕ} → Calls (read_row k n p) empty (refusal 7) empty
  read_done : {g : Guideline} {k n p : ℕ} {s : Shown} → Reads g.table k n p s → Calls (read_row k n p) (loaded g) (row s) (loaded g)

-- ---- the Changes table, "a list of rows lent by the caller .. for a run; what it held is ignored, and every row is blank after an accepted run";
-- a refused call changes "no byte". Whatever a row is made of: blank is the blank one

pub data Leaves {Row : Type 0} (blank : Row) : Reply → List Row → List Row → Type 0 where
  left_blank : {r : Report} {rows rows' : List Row} → length rows' ≡ length rows → ((i : ℕ) (x : Row) → At rows' i x → x ≡ blank) → Leaves blank (ran r) rows rows'
  left_as_it_was : {n p c : ℕ} {rows : List Row} → Leaves blank (refuses n p c) rows rows

-- a run with the bound n, given these rows
pub record CallsRun {Row : Type 0} (blank : Row) (n : ℕ) (rows : List Row) (s : State) (r : Reply) (s' : State) (rows' : List Row) : Type 0 where
  pub calls : Calls (run n (length rows)) s r s'
  pub leaves : Leaves blank r rows rows'

-- ---- 01: "A series of calls starts from an empty guideline, and each call is given the guideline, state and tables (the Changes table aside) as the call before left them"

pub data Series : State → Type 0 where
  no_call : Series empty
  then_call : {c : Call} {s s' : State} {r : Reply} → Series s → Calls c s r s' → Series s'
