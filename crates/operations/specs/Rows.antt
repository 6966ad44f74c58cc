-- 8.5.2, 8.5.4, 8.5.5: the rows that Initialise, Discard and Complete add, as the code appends them. By the clauses, one after the other.
-- A row of a value holds the number of its assignment.
use Rattle.std.specs.Prelude.{ℕ, ◌+◌, ◌<◌, ◌≡◌, refl, false, List, pos, get_or}
use Rattle.std.proofs.Common.{arith, ap, subst}
use Rattle.std.proofs.Math.Decide.{dec_lt}
use Rattle.paper_expressions.specs.Values.{dormant, discarded, completed}
use Rattle.paper_rows.specs.Table.{task, data_item, Component, ◌№◌, an_action, Property, class, state, trigger_active, cycle_count, nbr_cycles_value, start_at, discarded_time, completed_time, value, RowValue, state_is, class_is, time_is, unknown_row, truth_row, integer_row, Table, Contains}
use Rattle.paper_engine.specs.Cycle as Cycle
use Rattle.paper_engine.specs.Operations.{Initialise, initialise_1, initialise_2, initialise_3, initialise_4, initialise_5, initialise_9a, Discard, discard_1, discard_3}
use Rattle.state.specs.Cell.{row_number, plain_unknown, plain_truth, plain_count, plain_time, plain_state}
use Rattle.waits.specs.Booleans.{Tests}
use Rattle.changes.specs.Row.{component_code, state_at, start_at_at, trigger-at, count_at, cycles_at, discarded_at, completed_at, value-at, Shared, Appends, One, this, Either, first, second, appends_none, appends_as, appends_more}
use Rattle.changes.specs.Push.{Pushes}
use Rattle.starting.specs.StartRows.{action_f, ProcedureRow, Unset, unset}

task_code : (T : ℕ) → T ≡ component_code (task № T)
task_code T = omega arith

-- ---- 8.5.2

abbrev pub InitialiseRows : List ℕ → ℕ → List ℕ → ℕ → List ℕ → ℕ → Type 0
InitialiseRows f T o n q m = (t : Table) (now : ℕ) → Tests (action_f f T) (Contains t (task № T) class (class_is an_action)) → Appends o n q m (Initialise t now T)

abbrev Two : ℕ → Cycle.Rows
Two T = Either (One (task № T) state (state_is dormant)) (One (task № T) cycle_count (integer_row (pos 0)))

abbrev Three : ℕ → Cycle.Rows
Three T = Either (Two T) (One (task № T) start_at unknown_row)

abbrev Four : ℕ → Cycle.Rows
Four T = Either (Three T) (One (task № T) trigger_active (truth_row false))

abbrev Five : ℕ → Cycle.Rows
Five T = Either (Four T) (One (task № T) nbr_cycles_value unknown_row)

pub initialise_rows : (f : List ℕ) (T : ℕ) (o o1 o2 o3 o4 o5 q : List ℕ) (n n1 n2 n3 n4 n5 m : ℕ) → Pushes o n T 8 5 1 o1 n1 → Pushes o1 n1 T 200 3 0 o2 n2 → Pushes o2 n2 T 328 1 0 o3 n3 → Pushes o3 n3 T 72 2 0 o4 n4
    → Pushes o4 n4 T 264 1 0 o5 n5 → ProcedureRow f T o5 n5 q m → InitialiseRows f T o n q m
initialise_rows f T o o1 o2 o3 o4 o5 q n n1 n2 n3 n4 n5 m a b c d e g t now h =
    let z = task_code T in
    appends_as (λ u p r. (to u p r, back u p r))
    (appends_more five
    (appends_more four
    (appends_more three
    (appends_more two
    (appends_more one (a (λ l i k s. refl) (task № T) state (state_is dormant) z state_at (plain_state dormant) refl refl) (b (λ l i k s. refl) (task № T) cycle_count (integer_row (pos 0)) z count_at (plain_count 0) refl refl))
    (c (λ l i k s. refl) (task № T) start_at unknown_row z start_at_at plain_unknown refl refl))
    (d (λ l i k s. refl) (task № T) trigger_active (truth_row false) z trigger-at (plain_truth false) refl refl))
    (e (λ l i k s. refl) (task № T) nbr_cycles_value unknown_row z cycles_at plain_unknown refl refl))
    (g t h))
  where
    one : Shared (One (task № T) state (state_is dormant)) (One (task № T) cycle_count (integer_row (pos 0)))
    one u v p r x this y = elim y [ ]

    two : Shared (Two T) (One (task № T) start_at unknown_row)
    two u v p r x (first this) y = elim y [ ]
    two u v p r x (second this) y = elim y [ ]

    three : Shared (Three T) (One (task № T) trigger_active (truth_row false))
    three u v p r x (first (first this)) y = elim y [ ]
    three u v p r x (first (second this)) y = elim y [ ]
    three u v p r x (second this) y = elim y [ ]

    four : Shared (Four T) (One (task № T) nbr_cycles_value unknown_row)
    four u v p r x (first (first (first this))) y = elim y [ ]
    four u v p r x (first (first (second this))) y = elim y [ ]
    four u v p r x (first (second this)) y = elim y [ ]
    four u v p r x (second this) y = elim y [ ]

    five : Shared (Five T) (Unset t T)
    five u v p r x (first (first (first (first this)))) y = elim y [ ]
    five u v p r x (first (first (first (second this)))) y = elim y [ ]
    five u v p r x (first (first (second this))) y = elim y [ ]
    five u v p r x (first (second this)) y = elim y [ ]
    five u v p r x (second this) y = elim y [ ]

    to : (u : Component) (p : Property) (r : RowValue) → Either (Five T) (Unset t T) u p r → Initialise t now T u p r
    to u p r (first (first (first (first (first this))))) = initialise_1
    to u p r (first (first (first (first (second this))))) = initialise_2
    to u p r (first (first (first (second this)))) = initialise_3
    to u p r (first (first (second this))) = initialise_4
    to u p r (first (second this)) = initialise_5
    to u p r (second (unset x)) = initialise_9a x

    back : (u : Component) (p : Property) (r : RowValue) → Initialise t now T u p r → Either (Five T) (Unset t T) u p r
    back u p r initialise_1 = first (first (first (first (first this))))
    back u p r initialise_2 = first (first (first (first (second this))))
    back u p r initialise_3 = first (first (first (second this)))
    back u p r initialise_4 = first (first (second this))
    back u p r initialise_5 = first (second this)
    back u p r (initialise_9a x) = second (unset x)

-- ---- 8.5.4

abbrev pub DiscardRows : ℕ → ℕ → List ℕ → ℕ → List ℕ → ℕ → Type 0
DiscardRows now T o n q m = (t : Table) → Appends o n q m (Discard t now T)

pub discard_rows : (now T : ℕ) (o o1 q : List ℕ) (n n1 m : ℕ) → Pushes o n T 8 5 3 o1 n1 → Pushes o1 n1 T 456 4 now q m → DiscardRows now T o n q m
discard_rows now T o o1 q n n1 m a b t =
    let z = task_code T in
    appends_as (λ u p r. (to u p r, back u p r))
    (appends_more apart (a (λ l i k s. refl) (task № T) state (state_is discarded) z state_at (plain_state discarded) refl refl) (b (λ l i k s. refl) (task № T) discarded_time (time_is now) z discarded_at (plain_time now) refl refl))
  where
    apart : Shared (One (task № T) state (state_is discarded)) (One (task № T) discarded_time (time_is now))
    apart u v p r x this y = elim y [ ]

    to : (u : Component) (p : Property) (r : RowValue) → Either (One (task № T) state (state_is discarded)) (One (task № T) discarded_time (time_is now)) u p r → Discard t now T u p r
    to u p r (first this) = discard_1
    to u p r (second this) = discard_3

    back : (u : Component) (p : Property) (r : RowValue) → Discard t now T u p r → Either (One (task № T) state (state_is discarded)) (One (task № T) discarded_time (time_is now)) u p r
    back u p r discard_1 = first this
    back u p r discard_3 = second this

-- ---- 8.5.11, by number

-- the data item to which an assignment assigns
abbrev pub target_at : List ℕ → ℕ → ℕ
target_at f a = get_or f (680 + a) 0

-- the number of a task's first assignment, and how many it has
abbrev pub assign_at : List ℕ → ℕ → ℕ
assign_at f T = get_or f (616 + T) 0

abbrev pub assigns_at : List ℕ → ℕ → ℕ
assigns_at f T = get_or f (648 + T) 0

abbrev pub AssignRow : List ℕ → ℕ → List ℕ → ℕ → List ℕ → ℕ → Type 0
AssignRow f a o n q m = a < 256 → target_at f a < 64 → Appends o n q m (One (data_item № target_at f a) value (time_is a))

pub assign_row : (f : List ℕ) (a : ℕ) (o : List ℕ) (n : ℕ) (q : List ℕ) (m : ℕ) {d : ℕ} → d ≡ target_at f a → Pushes o n (65536 + d) 776 4 a q m → AssignRow f a o n q m
assign_row f a o n q m {d} e h l k =
    h (λ z i y s. refl) (data_item № target_at f a) value (time_is a) (let z : 65536 + d ≡ component_code (data_item № target_at f a) = omega arith in z) value-at (plain_time a) refl refl

pub data Assigned (f : List ℕ) (j k : ℕ) : Component → Property → RowValue → Type 0 where
  assigned_by : (i : ℕ) → i < k → Assigned f j k (data_item № target_at f (j + i)) value (time_is (j + i))

-- every assignment has its number and its data item
abbrev pub Targets : List ℕ → ℕ → ℕ → Type 0
Targets f j k = (i : ℕ) → i < k → (j + i < 256) × (target_at f (j + i) < 64)

abbrev pub AssignUpto : List ℕ → ℕ → ℕ → ℕ → List ℕ → ℕ → List ℕ → ℕ → Type 0
AssignUpto f j k i o n q m = Targets f j k → Appends o n q m (Assigned f j i)

abbrev pub AssignRows : List ℕ → ℕ → ℕ → List ℕ → ℕ → List ℕ → ℕ → Type 0
AssignRows f j k o n q m = AssignUpto f j k k o n q m

pub assigns_none : (f : List ℕ) (j k : ℕ) (o : List ℕ) (n : ℕ) → AssignUpto f j k 0 o n o n
assigns_none f j k o n g = appends_as (λ c p r. (λ z. elim z [ ], λ z. absurd (no c p r z))) (appends_none o n)
  where
    no : (c : Component) (p : Property) (r : RowValue) → ¬ Assigned f j 0 c p r
    no c p r (assigned_by i l) = omega arith

one_value : {c d : Component} {p u : Property} {r v : RowValue} → One c p r d u v → r ≡ v
one_value this = refl

pub assigns_more : (f : List ℕ) (j k i : ℕ) (o : List ℕ) (n : ℕ) (u : List ℕ) (v : ℕ) (q : List ℕ) (m : ℕ) → i < k → AssignUpto f j k i o n u v → AssignRow f (j + i) u v q m → AssignUpto f j k (i + 1) o n q m
assigns_more f j k i o n u v q m l h g t =
    let x = t i l in
    appends_as (λ c p r. (to c p r, back c p r)) (appends_more apart (h t) (g x.0 x.1))
  where
    -- assignments differ by their numbers
    apart : Shared (Assigned f j i) (One (data_item № target_at f (j + i)) value (time_is (j + i)))
    apart c d p r z (assigned_by a b) y = absurd (other y)
      where
        other : ¬ One (data_item № target_at f (j + i)) value (time_is (j + i)) d value (time_is (j + a))
        other y = let e = ap row_number (one_value y) in omega arith

    to : (c : Component) (p : Property) (r : RowValue) → Either (Assigned f j i) (One (data_item № target_at f (j + i)) value (time_is (j + i))) c p r → Assigned f j (i + 1) c p r
    to c p r (first (assigned_by a b)) = assigned_by a (omega arith)
    to c p r (second this) = assigned_by i (omega arith)

    back : (c : Component) (p : Property) (r : RowValue) → Assigned f j (i + 1) c p r → Either (Assigned f j i) (One (data_item № target_at f (j + i)) value (time_is (j + i))) c p r
    back c p r (assigned_by a b) = go (dec_lt a i)
      where
        go : Dec (a < i) → Either (Assigned f j i) (One (data_item № target_at f (j + i)) value (time_is (j + i))) (data_item № target_at f (j + a)) value (time_is (j + a))
        go (yes z) = first (assigned_by a z)
        go (no z) = let w : i ≡ a = omega arith in
            second (subst (λ (b : ℕ). One (data_item № target_at f (j + i)) value (time_is (j + i)) (data_item № target_at f (j + b)) value (time_is (j + b))) w this)

pub assigns_all : (f : List ℕ) (j k i : ℕ) (o : List ℕ) (n : ℕ) (q : List ℕ) (m : ℕ) → i ≡ k → AssignUpto f j k i o n q m → AssignRows f j k o n q m
assigns_all f j k i o n q m e h = subst (λ (z : ℕ). AssignUpto f j k z o n q m) e h

-- ---- 8.5.5, its values by number

pub data CompleteS (f : List ℕ) (now T : ℕ) : Component → Property → RowValue → Type 0 where
  symbol_1 : CompleteS f now T (task № T) state (state_is completed)
  symbol_2 : CompleteS f now T (task № T) completed_time (time_is now)
  symbol_3 : (i : ℕ) → i < assigns_at f T → CompleteS f now T (data_item № target_at f (assign_at f T + i)) value (time_is (assign_at f T + i))
  symbol_5 : CompleteS f now T (task № T) start_at unknown_row

abbrev pub CompleteRows : List ℕ → ℕ → ℕ → List ℕ → ℕ → List ℕ → ℕ → Type 0
CompleteRows f now T o n q m = Targets f (assign_at f T) (assigns_at f T) → Appends o n q m (CompleteS f now T)

pub complete_rows : (f : List ℕ) (now T : ℕ) (o o1 o2 o3 q : List ℕ) (n n1 n2 n3 m : ℕ) {j k : ℕ} → Pushes o n T 8 5 4 o1 n1 → Pushes o1 n1 T 520 4 now o2 n2 → Pushes o2 n2 T 328 1 0 o3 n3
    → j ≡ assign_at f T → k ≡ assigns_at f T → AssignRows f j k o3 n3 q m → CompleteRows f now T o n q m
complete_rows f now T o o1 o2 o3 q n n1 n2 n3 m {j} {k} a b c x y d h =
    let z = task_code T in
    let w : AssignRows f (assign_at f T) (assigns_at f T) o3 n3 q m = subst (λ (i : ℕ). AssignRows f (assign_at f T) i o3 n3 q m) y (subst (λ (i : ℕ). AssignRows f i k o3 n3 q m) x d) in
    appends_as (λ u p r. (to u p r, back u p r))
    (appends_more three
    (appends_more two
    (appends_more one (a (λ l i k s. refl) (task № T) state (state_is completed) z state_at (plain_state completed) refl refl) (b (λ l i k s. refl) (task № T) completed_time (time_is now) z completed_at (plain_time now) refl refl))
    (c (λ l i k s. refl) (task № T) start_at unknown_row z start_at_at plain_unknown refl refl))
    (w h))
  where
    one : Shared (One (task № T) state (state_is completed)) (One (task № T) completed_time (time_is now))
    one u v p r q this g = elim g [ ]

    two : Shared (Either (One (task № T) state (state_is completed)) (One (task № T) completed_time (time_is now))) (One (task № T) start_at unknown_row)
    two u v p r q (first this) g = elim g [ ]
    two u v p r q (second this) g = elim g [ ]

    three : Shared (Either (Either (One (task № T) state (state_is completed)) (One (task № T) completed_time (time_is now))) (One (task № T) start_at unknown_row)) (Assigned f (assign_at f T) (assigns_at f T))
    three u v p r q (first (first this)) g = elim g [ ]
    three u v p r q (first (second this)) g = elim g [ ]
    three u v p r q (second this) g = elim g [ ]

    to : (u : Component) (p : Property) (r : RowValue)
        → Either (Either (Either (One (task № T) state (state_is completed)) (One (task № T) completed_time (time_is now))) (One (task № T) start_at unknown_row)) (Assigned f (assign_at f T) (assigns_at f T)) u p r → CompleteS f now T u p r
    to u p r (first (first (first this))) = symbol_1
    to u p r (first (first (second this))) = symbol_2
    to u p r (first (second this)) = symbol_5
    to u p r (second (assigned_by i l)) = symbol_3 i l

    back : (u : Component) (p : Property) (r : RowValue) → CompleteS f now T u p r
        → Either (Either (Either (One (task № T) state (state_is completed)) (One (task № T) completed_time (time_is now))) (One (task № T) start_at unknown_row)) (Assigned f (assign_at f T) (assigns_at f T)) u p r
    back u p r symbol_1 = first (first (first this))
    back u p r symbol_2 = first (first (second this))
    back u p r (symbol_3 i l) = second (assigned_by i l)
    back u p r symbol_5 = first (second this)
