-- Where the columns of the state table and of the plan begin: each where the one before ends, so that a limit moves them all. Definitions only.
use Rattle.std.specs.Prelude.{ℕ, suc, ◌+◌, ◌*◌}
use Rattle.paper_expressions.specs.Limits.{text_limit, list_limit}
use Rattle.paper_guideline.specs.Limits.{guideline_limit, task_limit, data_item_limit, source_limit, assignment_limit}

-- ---- the state table

-- whether a guideline is loaded, the Exception flag, the engine time; the others are spare
abbrev pub loaded_cell : ℕ
loaded_cell = 0

abbrev pub flag_cell : ℕ
flag_cell = 1

abbrev pub time_cell : ℕ
time_cell = 2

abbrev pub header_cells : ℕ
header_cells = 8

-- a property of the tasks: a column of tags, and behind it one of numbers
abbrev pub property_cells : ℕ
property_cells = task_limit + task_limit

abbrev pub state_tags : ℕ
state_tags = header_cells

abbrev pub trigger_tags : ℕ
trigger_tags = state_tags + property_cells

abbrev pub confirmed_tags : ℕ
confirmed_tags = trigger_tags + property_cells

abbrev pub count_tags : ℕ
count_tags = confirmed_tags + property_cells

abbrev pub cycles_tags : ℕ
cycles_tags = count_tags + property_cells

abbrev pub start_tags : ℕ
start_tags = cycles_tags + property_cells

abbrev pub in_progress_tags : ℕ
in_progress_tags = start_tags + property_cells

abbrev pub discarded_tags : ℕ
discarded_tags = in_progress_tags + property_cells

abbrev pub completed_tags : ℕ
completed_tags = discarded_tags + property_cells

abbrev pub procedure_tags : ℕ
procedure_tags = completed_tags + property_cells

-- `requested` of the data items
abbrev pub requested_tags : ℕ
requested_tags = procedure_tags + property_cells

abbrev pub requested_numbers : ℕ
requested_numbers = requested_tags + data_item_limit

-- the values of the data items: of each its shape, and a cell for each element
abbrev pub item_cells : ℕ
item_cells = suc list_limit

abbrev pub value_cells : ℕ
value_cells = item_cells * data_item_limit

abbrev pub value_tags : ℕ
value_tags = requested_numbers + data_item_limit

abbrev pub value_numbers : ℕ
value_numbers = value_tags + value_cells

-- the least length of the state table
abbrev pub state_cells : ℕ
state_cells = value_numbers + value_cells

-- the bytes of the texts of one data item, and of all tables' texts: the guideline's own, and behind them those of the values
abbrev pub item_bytes : ℕ
item_bytes = text_limit * list_limit

abbrev pub own_bytes : ℕ
own_bytes = guideline_limit

abbrev pub text_bytes : ℕ
text_bytes = own_bytes + item_bytes * data_item_limit

-- ---- the plan

-- the number of tasks, and of data items; the other cells of its header are spare
abbrev pub tasks_cell : ℕ
tasks_cell = 0

abbrev pub items_cell : ℕ
items_cell = 1

-- of a task: its parent and one; whether it has a trigger; its terminal row
abbrev pub parent_column : ℕ
parent_column = header_cells

abbrev pub triggered_column : ℕ
triggered_column = parent_column + task_limit

abbrev pub terminal_column : ℕ
terminal_column = triggered_column + task_limit

-- the tasks, parents first
abbrev pub order_column : ℕ
order_column = terminal_column + task_limit

-- of a task: its confirmatory row, its class, its first source, and how many it has
abbrev pub confirmatory_column : ℕ
confirmatory_column = order_column + task_limit

abbrev pub class_column : ℕ
class_column = confirmatory_column + task_limit

abbrev pub first_source_column : ℕ
first_source_column = class_column + task_limit

abbrev pub source_count_column : ℕ
source_count_column = first_source_column + task_limit

-- of a source: its data item, and its mandatory row
abbrev pub source_item_column : ℕ
source_item_column = source_count_column + task_limit

abbrev pub mandatory_column : ℕ
mandatory_column = source_item_column + source_limit

-- where the expressions of a task end
abbrev pub precondition_column : ℕ
precondition_column = mandatory_column + source_limit

abbrev pub wait_condition_column : ℕ
wait_condition_column = precondition_column + task_limit

abbrev pub terminate_column : ℕ
terminate_column = wait_condition_column + task_limit

-- the first assignment of a task, and how many it has
abbrev pub first_assignment_column : ℕ
first_assignment_column = terminate_column + task_limit

abbrev pub assignment_count_column : ℕ
assignment_count_column = first_assignment_column + task_limit

-- of an assignment: its data item, and where its expression ends
abbrev pub assigned_item_column : ℕ
assigned_item_column = assignment_count_column + task_limit

abbrev pub assigned_end_column : ℕ
assigned_end_column = assigned_item_column + assignment_limit

-- the handles of the names of the tasks and of their triggers; the names and declared types of the data items
abbrev pub task_name_column : ℕ
task_name_column = assigned_end_column + assignment_limit

abbrev pub trigger_column : ℕ
trigger_column = task_name_column + task_limit

abbrev pub item_name_column : ℕ
item_name_column = trigger_column + task_limit

abbrev pub item_type_column : ℕ
item_type_column = item_name_column + data_item_limit

-- of an assignment: its task
abbrev pub assigning_task_column : ℕ
assigning_task_column = item_type_column + data_item_limit

-- the least length of the plan
abbrev pub plan_cells : ℕ
plan_cells = assigning_task_column + assignment_limit
