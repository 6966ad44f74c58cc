-- The numbers of answers: "If an answer is an enum, a definition gives this paper's number and values for each of its cases" (document 01). Definitions only.
-- Kinds and properties are numbered from 0 by their rank (Table); the other numbers are decided, from 1 in the printed order, 0 for none.
use Rattle.std.specs.Prelude.{ℕ}
use Rattle.paper_expressions.specs.Values.{Value, TaskState, dormant, in_progress, discarded, completed}
use Rattle.paper_expressions.specs.Types.{Declared, a_text, an_integer, a_boolean, a_datetime, a_date, a_time, a_real, a_setof_text, a_setof_integer, a_setof_real}
use Rattle.paper_rows.specs.Table.{Component, Class, a_data_item, a_generic_task, a_plan, a_decision, an_enquiry, an_action, a_source, a_candidate, a_parameter, a_warning_flag}
use Rattle.paper_engine.specs.Cycle.{Ending, quiet, bounded, exception}
use Rattle.paper_calls.specs.Calls.{Shown, no_row, there, shows_value, shows_state, shows_class, shows_type, shows_time, shows_component}

-- how a run ended, in the order of document 01
abbrev pub ending_number : Ending → ℕ
ending_number quiet = 1
ending_number bounded = 2
ending_number exception = 3

-- the states of a task (7.5)
abbrev pub state_number : TaskState → ℕ
state_number dormant = 1
state_number in_progress = 2
state_number discarded = 3
state_number completed = 4

-- the classes of a component (7.1, f)
abbrev pub class_number : Class → ℕ
class_number a_data_item = 1
class_number a_generic_task = 2
class_number a_plan = 3
class_number a_decision = 4
class_number an_enquiry = 5
class_number an_action = 6
class_number a_source = 7
class_number a_candidate = 8
class_number a_parameter = 9
class_number a_warning_flag = 10

-- the types of a data item (10.7)
abbrev pub type_number : Declared → ℕ
type_number a_text = 1
type_number an_integer = 2
type_number a_boolean = 3
type_number a_datetime = 4
type_number a_date = 5
type_number a_time = 6
type_number a_real = 7
type_number a_setof_text = 8
type_number a_setof_integer = 9
type_number a_setof_real = 10

-- what reading a row answers: no row; only that it is there; a value; ..
abbrev pub shown_number : Shown → ℕ
shown_number no_row = 0
shown_number there = 1
shown_number (shows_value w) = 2
shown_number (shows_state s) = 3
shown_number (shows_class k) = 4
shown_number (shows_type d) = 5
shown_number (shows_time n) = 6
shown_number (shows_component c) = 7
