-- 8.5.3: the rows that Start(T) adds, as the code appends them. By the clauses, one after the other.
use Rattle.std.specs.Prelude.{ℕ, ◌+◌, ◌<◌, ◌≡◌, refl, Bool, true, false, ◌&&◌, List, eqb, ℤ, pos, ◌+ℤ◌, get_or}
use Rattle.std.proofs.Common.{arith, sym, ap, subst, ◌∙◌, true≢false, eq-eqb, eqb-true}
use Rattle.std.proofs.Math.Decide.{dec_lt}
use Rattle.std.proofs.Math.Option.{Option, some}
use Rattle.paper_expressions.specs.Values.{in_progress}
use Rattle.paper_expressions.specs.Expressions.{Expr}
use Rattle.paper_expressions.specs.View.{At}
use Rattle.paper_rows.specs.Table.{task, data_item, source, Component, ◌№◌, an_enquiry, an_action, Property, class, state, confirmed, cycle_count, start_at, in_progress_time, procedure, actual_procedure, sources, data_item_of, requested, RowValue, state_is, class_is, time_is, expression_is, component_is, components_are, unknown_row, truth_row, integer_row, Table, Contains}
use Rattle.paper_engine.specs.Cycle as Cycle
use Rattle.paper_engine.specs.Operations.{InitialiseSource, initialise_source, Start, start_1, start_2, start_3, start_4, start_8, start_9, start_12}
use Rattle.state.specs.Cell.{plain_unknown, plain_truth, plain_count, plain_time, plain_state, one_row, row_is, tag}
use Rattle.state.specs.Layout.{Rows, count_column}
use Rattle.waits.specs.Booleans.{Tests}
use Rattle.waits.specs.Twins.{first_at, count_at_fn, item_at}
use Rattle.changes.specs.Row.{component_code, state_at, start_at_at, in_progress_at, confirmed_at, count_at, procedure_at, requested_at, Shared, Appends, One, this, Either, first, second, appends_none, appends_as, appends_more}
use Rattle.changes.specs.Push.{Asks, Pushes}

-- ---- 1, 2, 3, 8

abbrev pub Always : ℕ → ℕ → Cycle.Rows
Always now T =
    Either (Either (Either (One (task № T) state (state_is in_progress)) (One (task № T) start_at unknown_row)) (One (task № T) in_progress_time (time_is now)))
    (One (task № T) confirmed (truth_row false))

task_code : (T : ℕ) → T ≡ component_code (task № T)
task_code T = omega arith

pub always : (now T : ℕ) (o o1 o2 o3 q : List ℕ) (n n1 n2 n3 m : ℕ) → Pushes o n T 8 5 2 o1 n1 → Pushes o1 n1 T 328 1 0 o2 n2 → Pushes o2 n2 T 392 4 now o3 n3 → Pushes o3 n3 T 136 2 0 q m
    → Appends o n q m (Always now T)
always now T o o1 o2 o3 q n n1 n2 n3 m a b c d =
    let e = task_code T in
    appends_more three
    (appends_more two
    (appends_more one (a (λ l i k s. refl) (task № T) state (state_is in_progress) e state_at (plain_state in_progress) refl refl) (b (λ l i k s. refl) (task № T) start_at unknown_row e start_at_at plain_unknown refl refl))
    (c (λ l i k s. refl) (task № T) in_progress_time (time_is now) e in_progress_at (plain_time now) refl refl))
    (d (λ l i k s. refl) (task № T) confirmed (truth_row false) e confirmed_at (plain_truth false) refl refl)
  where
    one : Shared (One (task № T) state (state_is in_progress)) (One (task № T) start_at unknown_row)
    one u v p r e this h = elim h [ ]

    two : Shared (Either (One (task № T) state (state_is in_progress)) (One (task № T) start_at unknown_row)) (One (task № T) in_progress_time (time_is now))
    two u v p r e (first this) h = elim h [ ]
    two u v p r e (second this) h = elim h [ ]

    three : Shared (Either (Either (One (task № T) state (state_is in_progress)) (One (task № T) start_at unknown_row)) (One (task № T) in_progress_time (time_is now))) (One (task № T) confirmed (truth_row false))
    three u v p r e (first (first this)) h = elim h [ ]
    three u v p r e (first (second this)) h = elim h [ ]
    three u v p r e (second this) h = elim h [ ]

-- ---- 4

pub data Counted (t : Table) (T : ℕ) : Component → Property → RowValue → Type 0 where
  counted : {n : ℤ} → Contains t (task № T) cycle_count (integer_row n) → Counted t T (task № T) cycle_count (integer_row (n +ℤ pos 1))

-- the counts that the cells have room for
abbrev pub Countable : Table → ℕ → Type 0
Countable t T = (k : ℕ) → Contains t (task № T) cycle_count (integer_row (pos k)) → k < 4294967295

abbrev pub CountRow : List ℕ → ℕ → List ℕ → ℕ → List ℕ → ℕ → Type 0
CountRow s T o n q m = (t : Table) → Rows s t → T < 32 → Countable t T → Appends o n q m (Counted t T)

count_row : {s : List ℕ} {t : Table} {T : ℕ} → Rows s t → T < 32 → get_or s (200 + T) 0 ≡ 3 → Contains t (task № T) cycle_count (integer_row (pos (get_or s (232 + T) 0)))
count_row {s} {t} {T} rows l e = one_row (rows.tasks count_column l) (record { plain = plain_count (get_or s (232 + T) 0); its_tag = e; its_number = refl })

same_count : {o : Option RowValue} {a b : ℤ} → o ≡ some (integer_row a) → o ≡ some (integer_row b) → a ≡ b
same_count e f = cc

pub count_more : (s : List ℕ) (T : ℕ) (o : List ℕ) (n : ℕ) (q : List ℕ) (m : ℕ) {k x : ℕ} → k ≡ get_or s (200 + T) 0 → k ≡ 3 → x ≡ get_or s (232 + T) 0 → Pushes o n T 200 3 (x + 1) q m → CountRow s T o n q m
count_more s T o n q m {k} {x} e f g h t rows l room =
    let there = count_row rows l (sym e ∙ f) in
    let row : Contains t (task № T) cycle_count (integer_row (pos x)) = rw g there in
    appends_as (λ c p r. (to row c p r, back row c p r)) (h (λ l i y s. refl) (task № T) cycle_count (integer_row (pos (x + 1))) (task_code T) count_at (plain_count (x + 1)) refl refl)
  where
    to : Contains t (task № T) cycle_count (integer_row (pos x)) → (c : Component) (p : Property) (r : RowValue) → One (task № T) cycle_count (integer_row (pos (x + 1))) c p r → Counted t T c p r
    to row c p r this = counted row

    back : Contains t (task № T) cycle_count (integer_row (pos x)) → (c : Component) (p : Property) (r : RowValue) → Counted t T c p r → One (task № T) cycle_count (integer_row (pos (x + 1))) c p r
    back row c p r (counted {n} z) = subst (λ (y : ℤ). One (task № T) cycle_count (integer_row (pos (x + 1))) (task № T) cycle_count (integer_row (y +ℤ pos 1))) (same_count row z) this

pub count_none : (s : List ℕ) (T : ℕ) (o : List ℕ) (n : ℕ) {k : ℕ} → k ≡ get_or s (200 + T) 0 → ¬ (k ≡ 3) → CountRow s T o n o n
count_none s T o n {k} e f t rows l room = appends_as (λ c p r. (λ z. elim z [ ], λ z. absurd (no c p r z))) (appends_none o n)
  where
    no : (c : Component) (p : Property) (r : RowValue) → ¬ Counted t T c p r
    no c p r (counted z) = f (e ∙ (rows.tasks count_column l).its_tag ∙ ap tag z)

pub count_full : (s : List ℕ) (T : ℕ) (o : List ℕ) (n : ℕ) {k x : ℕ} → k ≡ get_or s (200 + T) 0 → k ≡ 3 → x ≡ get_or s (232 + T) 0 → ¬ (x < 4294967295) → CountRow s T o n o n
count_full s T o n {k} {x} e f g h t rows l room = absurd (h (rw g (room (get_or s (232 + T) 0) (count_row rows l (sym e ∙ f)))))

-- ---- 12

pub data Unset (t : Table) (T : ℕ) : Component → Property → RowValue → Type 0 where
  unset : Contains t (task № T) class (class_is an_action) → Unset t T (task № T) actual_procedure unknown_row

abbrev pub action_f : List ℕ → ℕ → Bool
action_f f T = eqb (get_or f (168 + T) 0) 2

abbrev pub ProcedureRow : List ℕ → ℕ → List ℕ → ℕ → List ℕ → ℕ → Type 0
ProcedureRow f T o n q m = (t : Table) → Tests (action_f f T) (Contains t (task № T) class (class_is an_action)) → Appends o n q m (Unset t T)

pub procedure_more : (f : List ℕ) (T : ℕ) (o : List ℕ) (n : ℕ) (q : List ℕ) (m : ℕ) {k : ℕ} → k ≡ get_or f (168 + T) 0 → k ≡ 2 → Pushes o n T 584 1 0 q m → ProcedureRow f T o n q m
procedure_more f T o n q m {k} e g h t a =
    let row = a.0 (eq-eqb _ 2 (sym e ∙ g)) in
    appends_as (λ c p r. (to row c p r, back c p r)) (h (λ l i y s. refl) (task № T) actual_procedure unknown_row (task_code T) procedure_at plain_unknown refl refl)
  where
    to : Contains t (task № T) class (class_is an_action) → (c : Component) (p : Property) (r : RowValue) → One (task № T) actual_procedure unknown_row c p r → Unset t T c p r
    to row c p r this = unset row

    back : (c : Component) (p : Property) (r : RowValue) → Unset t T c p r → One (task № T) actual_procedure unknown_row c p r
    back c p r (unset z) = this

pub procedure_none : (f : List ℕ) (T : ℕ) (o : List ℕ) (n : ℕ) {k : ℕ} → k ≡ get_or f (168 + T) 0 → ¬ (k ≡ 2) → ProcedureRow f T o n o n
procedure_none f T o n {k} e g t a = appends_as (λ c p r. (λ z. elim z [ ], λ z. absurd (no c p r z))) (appends_none o n)
  where
    no : (c : Component) (p : Property) (r : RowValue) → ¬ Unset t T c p r
    no c p r (unset z) = g (e ∙ eqb-true _ 2 (a.1 z))

-- ---- 9

abbrev pub requested_f : List ℕ → ℕ → Bool
requested_f s d = eqb (get_or s (648 + d) 0) 2 && eqb (get_or s (712 + d) 0) 1

-- InitialiseSource of a source of the item d
abbrev pub RequestRow : List ℕ → ℕ → List ℕ → ℕ → List ℕ → ℕ → Type 0
RequestRow s d o n q m =
    (t : Table) (S : Component) → Rows s t → d < 64 → Contains t S data_item_of (component_is (data_item № d)) → Appends o n q m (InitialiseSource t S)

same_item : {o : Option RowValue} {d e : ℕ} → o ≡ some (component_is (data_item № d)) → o ≡ some (component_is (data_item № e)) → d ≡ e
same_item p q = cc

item_code : (d : ℕ) → 65536 + d ≡ component_code (data_item № d)
item_code d = omega arith

pub request_none : (s : List ℕ) (d : ℕ) (o : List ℕ) (n : ℕ) → requested_f s d ≡ true → RequestRow s d o n o n
request_none s d o n e t S rows l h = appends_as (λ c p r. (λ z. elim z [ ], λ z. absurd (no c p r z))) (appends_none o n)
  where
    there : Contains t (data_item № d) requested (truth_row true)
    there = (row_is (rows.asked l) (plain_truth true)).0 e

    no : (c : Component) (p : Property) (r : RowValue) → ¬ InitialiseSource t S c p r
    no c p r (initialise_source {d = k} x y) = y (subst (λ (z : ℕ). Contains t (data_item № z) requested (truth_row true)) (same_item h x) there)

pub request_more : (s : List ℕ) (d : ℕ) (o : List ℕ) (n : ℕ) (q : List ℕ) (m : ℕ) {b : Bool} → b ≡ requested_f s d → b ≡ false → Asks o n (65536 + d) 648 2 1 q m → RequestRow s d o n q m
request_more s d o n q m {b} e f h t S rows l i =
    appends_as (λ c p r. (to c p r, back c p r)) (h (data_item № d) requested (truth_row true) (item_code d) requested_at (plain_truth true) refl refl)
  where
    absent : ¬ Contains t (data_item № d) requested (truth_row true)
    absent z = true≢false (sym ((row_is (rows.asked l) (plain_truth true)).1 z) ∙ sym e ∙ f)

    to : (c : Component) (p : Property) (r : RowValue) → One (data_item № d) requested (truth_row true) c p r → InitialiseSource t S c p r
    to c p r this = initialise_source i absent

    back : (c : Component) (p : Property) (r : RowValue) → InitialiseSource t S c p r → One (data_item № d) requested (truth_row true) c p r
    back c p r (initialise_source {d = k} x y) = subst (λ (z : ℕ). One (data_item № d) requested (truth_row true) (data_item № z) requested (truth_row true)) (same_item i x) this

source_requested : {t : Table} {S c : Component} {p : Property} {r : RowValue} → InitialiseSource t S c p r → p ≡ requested
source_requested (initialise_source x y) = refl

-- the sources from the j-th on, k of them
pub data Requested (t : Table) (j k : ℕ) (c : Component) (p : Property) (r : RowValue) : Type 0 where
  requested_by : (i : ℕ) → i < k → InitialiseSource t (source № (j + i)) c p r → Requested t j k c p r

-- the items of these sources
abbrev pub ItemsOf : List ℕ → Table → ℕ → ℕ → Type 0
ItemsOf f t j k = (i : ℕ) → i < k → (item_at f (j + i) < 64) × Contains t (source № (j + i)) data_item_of (component_is (data_item № (item_at f (j + i))))

-- of k sources from the j-th on, the first i are done
abbrev pub EachUpto : List ℕ → List ℕ → ℕ → ℕ → ℕ → List ℕ → ℕ → List ℕ → ℕ → Type 0
EachUpto s f j k i o n q m = (t : Table) → Rows s t → ItemsOf f t j k → Appends o n q m (Requested t j i)

pub each_none : (s f : List ℕ) (j k : ℕ) (o : List ℕ) (n : ℕ) → EachUpto s f j k 0 o n o n
each_none s f j k o n t rows items = appends_as (λ c p r. (λ z. elim z [ ], λ z. absurd (no c p r z))) (appends_none o n)
  where
    no : (c : Component) (p : Property) (r : RowValue) → ¬ Requested t j 0 c p r
    no c p r (requested_by i l x) = omega arith

pub each_more : (s f : List ℕ) (j k i : ℕ) (o : List ℕ) (n : ℕ) (u : List ℕ) (v : ℕ) (q : List ℕ) (m : ℕ) {d : ℕ} → i < k → d ≡ item_at f (j + i)
    → EachUpto s f j k i o n u v → RequestRow s d u v q m → EachUpto s f j k (i + 1) o n q m
each_more s f j k i o n u v q m {d} l e h g t rows items =
    let x = items i l in
    let w : RequestRow s (item_at f (j + i)) u v q m = rw e at g in
    appends_as (λ c p r. (to c p r, back c p r)) (appends_more (λ c a p r z x y. source_requested y) (h t rows items) (w t (source № (j + i)) rows x.0 x.1))
  where
    to : (c : Component) (p : Property) (r : RowValue) → Either (Requested t j i) (InitialiseSource t (source № (j + i))) c p r → Requested t j (i + 1) c p r
    to c p r (first (requested_by a b y)) = requested_by a (omega arith) y
    to c p r (second y) = requested_by i (omega arith) y

    back : (c : Component) (p : Property) (r : RowValue) → Requested t j (i + 1) c p r → Either (Requested t j i) (InitialiseSource t (source № (j + i))) c p r
    back c p r (requested_by a b y) = go (dec_lt a i)
      where
        go : Dec (a < i) → Either (Requested t j i) (InitialiseSource t (source № (j + i))) c p r
        go (yes z) = first (requested_by a z y)
        go (no z) = let w : a ≡ i = omega arith in second (subst (λ (b : ℕ). InitialiseSource t (source № (j + b)) c p r) w y)

pub each_all : (s f : List ℕ) (j k i : ℕ) (o : List ℕ) (n : ℕ) (q : List ℕ) (m : ℕ) → i ≡ k → EachUpto s f j k i o n q m → EachUpto s f j k k o n q m
each_all s f j k i o n q m e h = subst (λ (z : ℕ). EachUpto s f j k z o n q m) e h

-- of an enquiry
-- what load worked out of T's class and sources
pub record Sourced (f : List ℕ) (T : ℕ) (t : Table) : Type 0 where
  pub enquiry : Tests (eqb (get_or f (168 + T) 0) 3) (Contains t (task № T) class (class_is an_enquiry))
  pub of : {l : List Component} {i : ℕ} {c : Component} → Contains t (task № T) sources (components_are l) → At l i c → (i < count_at_fn f T) × (c ≡ source № (first_at f T + i))
  pub all : {i : ℕ} → i < count_at_fn f T → (l : List Component) × Contains t (task № T) sources (components_are l) × At l i (source № (first_at f T + i))
  pub items : ItemsOf f t (first_at f T) (count_at_fn f T)

pub data Requests (t : Table) (T : ℕ) (c : Component) (p : Property) (r : RowValue) : Type 0 where
  requests : {l : List Component} {i : ℕ} {S : Component} → Contains t (task № T) class (class_is an_enquiry) → Contains t (task № T) sources (components_are l) → At l i S
      → InitialiseSource t S c p r → Requests t T c p r

abbrev pub RequestRows : List ℕ → List ℕ → ℕ → List ℕ → ℕ → List ℕ → ℕ → Type 0
RequestRows s f T o n q m = (t : Table) → Rows s t → Sourced f T t → Appends o n q m (Requests t T)

pub requests_none : (s f : List ℕ) (T : ℕ) (o : List ℕ) (n : ℕ) {k : ℕ} → k ≡ get_or f (168 + T) 0 → ¬ (k ≡ 3) → RequestRows s f T o n o n
requests_none s f T o n {k} e g t rows h = appends_as (λ c p r. (λ z. elim z [ ], λ z. absurd (no c p r z))) (appends_none o n)
  where
    no : (c : Component) (p : Property) (r : RowValue) → ¬ Requests t T c p r
    no c p r (requests z a b x) = g (e ∙ eqb-true _ 3 (h.enquiry.1 z))

pub requests_more : (s f : List ℕ) (T : ℕ) (o : List ℕ) (n : ℕ) (q : List ℕ) (m : ℕ) {k a b : ℕ} → k ≡ get_or f (168 + T) 0 → k ≡ 3 → a ≡ first_at f T → b ≡ count_at_fn f T
    → EachUpto s f a b b o n q m → RequestRows s f T o n q m
requests_more s f T o n q m {k} {a} {b} e g x y h t rows z =
    let w : EachUpto s f (first_at f T) (count_at_fn f T) (count_at_fn f T) o n q m = subst (λ (i : ℕ). EachUpto s f (first_at f T) i i o n q m) y (subst (λ (i : ℕ). EachUpto s f i b b o n q m) x h) in
    appends_as (λ c p r. (to c p r, back c p r)) (w t rows z.items)
  where
    to : (c : Component) (p : Property) (r : RowValue) → Requested t (first_at f T) (count_at_fn f T) c p r → Requests t T c p r
    to c p r (requested_by i l v) = let u = z.all l in requests (z.enquiry.0 (eq-eqb _ 3 (sym e ∙ g))) u.1 u.2 v

    back : (c : Component) (p : Property) (r : RowValue) → Requests t T c p r → Requested t (first_at f T) (count_at_fn f T) c p r
    back c p r (requests {i} u v w d) = let j = z.of v w in requested_by i j.0 (subst (λ (S : Component). InitialiseSource t S c p r) j.1 d)

-- ---- all of them

-- what the tables have to show for Start(T)
pub record Startable (s f : List ℕ) (T : ℕ) (t : Table) : Type 0 where
  pub rows : Rows s t
  pub within : T < 32
  pub countable : Countable t T
  pub action : Tests (action_f f T) (Contains t (task № T) class (class_is an_action))
  pub sourced : Sourced f T t
  pub no_procedure : (e : Expr) → ¬ Contains t (task № T) procedure (expression_is e)

abbrev pub StartRows : List ℕ → List ℕ → ℕ → ℕ → List ℕ → ℕ → List ℕ → ℕ → Type 0
StartRows s f now T o n q m = (t : Table) → Startable s f T t → Appends o n q m (Start t now T)

pub start_rows : (s f : List ℕ) (now T : ℕ) (o o1 o2 o3 q : List ℕ) (n n1 n2 n3 m : ℕ) → Appends o n o1 n1 (Always now T) → CountRow s T o1 n1 o2 n2 → RequestRows s f T o2 n2 o3 n3 → ProcedureRow f T o3 n3 q m
    → StartRows s f now T o n q m
start_rows s f now T o o1 o2 o3 q n n1 n2 n3 m a b c d t h =
    appends_as (λ u p r. (to u p r, back u p r)) (appends_more three (appends_more two (appends_more one a (b t h.rows h.within h.countable)) (c t h.rows h.sourced)) (d t h.action))
  where
    one : Shared (Always now T) (Counted t T)
    one u v p r e (first (first (first this))) z = elim z [ ]
    one u v p r e (first (first (second this))) z = elim z [ ]
    one u v p r e (first (second this)) z = elim z [ ]
    one u v p r e (second this) z = elim z [ ]

    two : Shared (Either (Always now T) (Counted t T)) (Requests t T)
    two u v p r e x (requests k l i z) = source_requested z

    three : Shared (Either (Either (Always now T) (Counted t T)) (Requests t T)) (Unset t T)
    three u v p r e (first (first (first (first (first this))))) z = elim z [ ]
    three u v p r e (first (first (first (first (second this))))) z = elim z [ ]
    three u v p r e (first (first (first (second this)))) z = elim z [ ]
    three u v p r e (first (first (second this))) z = elim z [ ]
    three u v p r e (first (second (counted k))) z = elim z [ ]
    three u v p r e (second (requests k l i z)) y = source_requested z

    to : (u : Component) (p : Property) (r : RowValue) → Either (Either (Either (Always now T) (Counted t T)) (Requests t T)) (Unset t T) u p r → Start t now T u p r
    to u p r (first (first (first (first (first (first this)))))) = start_1
    to u p r (first (first (first (first (first (second this)))))) = start_2
    to u p r (first (first (first (first (second this))))) = start_3
    to u p r (first (first (first (second this)))) = start_8
    to u p r (first (first (second (counted z)))) = start_4 z
    to u p r (first (second (requests x y z w))) = start_9 x y z w
    to u p r (second (unset z)) = start_12 z h.no_procedure

    back : (u : Component) (p : Property) (r : RowValue) → Start t now T u p r → Either (Either (Either (Always now T) (Counted t T)) (Requests t T)) (Unset t T) u p r
    back u p r start_1 = first (first (first (first (first (first this)))))
    back u p r start_2 = first (first (first (first (first (second this)))))
    back u p r start_3 = first (first (first (first (second this))))
    back u p r (start_4 z) = first (first (second (counted z)))
    back u p r start_8 = first (first (first (second this)))
    back u p r (start_9 x y z w) = first (second (requests x y z w))
    back u p r (start_12 x y) = second (unset x)
