-- 8.6.6, 8.6.5, 8.6.2 as tests on the tables' cells.
use Rattle.std.specs.Prelude.{ℕ, ◌+◌, ◌-◌, Bool, false, not, ◌&&◌, ◌||◌, List, [], eqb, leb, get_or}
use Rattle.state.specs.Layout.{row_is_fn}
use Rattle.waits.specs.Booleans.{all_f, any_f}

-- the marks of 32 tasks
abbrev pub marked : List Bool → ℕ → Bool
marked m T = get_or m T false

-- the tasks for which T waits
abbrev pub waiting : List (List Bool) → ℕ → List Bool
waiting w T = get_or w T []

abbrev pub timed_f : List ℕ → ℕ → Bool
timed_f s T = eqb (get_or s (328 + T) 0) 4

abbrev pub ended_f : List ℕ → ℕ → Bool
ended_f s A = (row_is_fn s 8 A 5 4 || row_is_fn s 8 A 5 3) && not (timed_f s A)

abbrev pub over_f : List ℕ → List Bool → ℕ → Bool
over_f s row A = not (marked row A) || ended_f s A

abbrev pub completed_f : List ℕ → List Bool → ℕ → Bool
completed_f s row A = marked row A && row_is_fn s 8 A 5 4

abbrev pub discarded_f : List ℕ → List Bool → ℕ → Bool
discarded_f s row A = not (marked row A) || row_is_fn s 8 A 5 3

-- ---- 8.6.6, 8.6.5, 8.6.2, of the task T: row are the tasks that it waits for; pre, wait say that what it asks for is true

abbrev pub schedule_f : List ℕ → List Bool → Bool → Bool
schedule_f s row wait = all_f (over_f s row) 32 && wait

abbrev pub scheduled_case : List ℕ → Bool → Bool → Bool → Bool → Bool → ℕ → Bool
scheduled_case s any over completed pre wait T = row_is_fn s 8 T 5 1 && ((over && wait) && ((not any || completed) && pre))

abbrev pub scheduled_f : List ℕ → List Bool → Bool → Bool → ℕ → Bool
scheduled_f s row pre wait T = scheduled_case s (any_f (marked row) 32) (all_f (over_f s row) 32) (any_f (completed_f s row) 32) pre wait T

-- the parent of T and one, or 0
abbrev pub parent_at : List ℕ → ℕ → ℕ
parent_at f T = get_or f (8 + T) 0

abbrev pub parent_f : List ℕ → List ℕ → ℕ → Bool
parent_f s f T = eqb (parent_at f T) 0 || row_is_fn s 8 (parent_at f T - 1) 5 2

abbrev pub trigger_f : List ℕ → ℕ → Bool
trigger_f f T = eqb (get_or f (40 + T) 0) 1

abbrev pub terminal_f : List ℕ → ℕ → Bool
terminal_f f T = eqb (get_or f (72 + T) 0) 1

abbrev pub confirmatory_f : List ℕ → ℕ → Bool
confirmatory_f f T = eqb (get_or f (136 + T) 0) 1

-- the class: 1 plan, 2 action, 3 enquiry
abbrev pub class_f : List ℕ → ℕ → ℕ → Bool
class_f f T k = eqb (get_or f (168 + T) 0) k

-- the number of its first source, and how many it has
abbrev pub first_at : List ℕ → ℕ → ℕ
first_at f T = get_or f (200 + T) 0

abbrev pub count_at_fn : List ℕ → ℕ → ℕ
count_at_fn f T = get_or f (232 + T) 0

-- of a source, its data item, and whether it is mandatory
abbrev pub item_at : List ℕ → ℕ → ℕ
item_at f n = get_or f (264 + n) 0

abbrev pub mandatory_f : List ℕ → ℕ → Bool
mandatory_f f n = eqb (get_or f (392 + n) 0) 1

abbrev pub due_f : List ℕ → ℕ → ℕ → Bool
due_f s now T = timed_f s T && leb (get_or s (360 + T) 0) now

abbrev pub schedule_case : List ℕ → List ℕ → Bool → Bool → Bool → Bool → Bool → ℕ → Bool
schedule_case s f any over completed pre wait T = scheduled_case s any over completed pre wait T && not (trigger_f f T)

abbrev pub trigger_case : List ℕ → ℕ → Bool
trigger_case s T = row_is_fn s 72 T 2 1 && row_is_fn s 8 T 5 1

abbrev pub start_case : List ℕ → List ℕ → Bool → Bool → Bool → Bool → Bool → ℕ → ℕ → Bool
start_case s f any over completed pre wait now T = schedule_case s f any over completed pre wait T || (trigger_case s T || due_f s now T)

abbrev pub start_f : List ℕ → List ℕ → List Bool → Bool → Bool → ℕ → ℕ → Bool
start_f s f row pre wait now T =
    parent_f s f T && start_case s f (any_f (marked row) 32) (all_f (over_f s row) 32) (any_f (completed_f s row) 32) pre wait now T

-- ---- 8.6.1, where starts and marks say it of T's parent
abbrev pub initialise_f : List ℕ → List ℕ → List Bool → List Bool → ℕ → Bool
initialise_f s f starts marks T =
    (row_is_fn s 8 T 5 4 && (row_is_fn s 72 T 2 1 && not (terminal_f f T)))
    || (not (eqb (parent_at f T) 0) && (marked starts (parent_at f T - 1) || marked marks (parent_at f T - 1)))

-- the k-th task, parents first
abbrev pub order_at : List ℕ → ℕ → ℕ
order_at f k = get_or f (104 + k) 0
