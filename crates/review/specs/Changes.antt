-- The Changes table after the review of all tasks: exactly the rows that are asked for, none of them twice, and never more than 576. By the tasks passed.
use Rattle.std.specs.Prelude.{ℕ, ◌+◌, ◌*◌, ◌<◌, ◌≤◌, ◌≡◌, refl, Bool, List, get_or}
use Rattle.std.proofs.Common.{arith, subst}
use Rattle.std.proofs.Math.Decide.{dec_lt}
use Rattle.paper_rows.specs.Table.{task, data_item, precondition, wait_condition, value, requested, Component, ◌№◌, Property, RowValue, time_is, Table}
use Rattle.paper_engine.specs.Operations.{Initialise, initialise_1, initialise_2, initialise_3, initialise_4, initialise_5, initialise_9a, initialise_source, Start, start_1, start_2, start_3, start_4, start_8, start_9, start_12, Discard, discard_1, discard_3}
use Rattle.state.specs.Layout.{Rows}
use Rattle.waits.specs.Twins.{marked, first_at, count_at_fn}
use Rattle.waits.specs.Worked.{Worked, Allowed, Marks}
use Rattle.discards.specs.DiscardLaws.{Ends}
use Rattle.passes.specs.Passes.{Starts, Initialises}
use Rattle.passes.specs.Ends.{Terminated, Discarded, Completed}
use Rattle.changes.specs.Row.{component_code, Shared, Appends, Either, first, second, appends_none, appends_as, appends_more}
use Rattle.starting.specs.StartRows.{Startable}
use Rattle.operations.specs.Rows.{Targets, assign_at, assigns_at, CompleteS, symbol_1, symbol_2, symbol_3, symbol_5}
use Rattle.operations.specs.Review.{AskedS, asked_1, asked_2, asked_3, asked_4, Reviewed, ReviewRows}

-- the rows of the first n tasks
pub data ChangesS (f : List ℕ) (t : Table) (now n : ℕ) (c : Component) (p : Property) (r : RowValue) : Type 0 where
  asked_at : {T : ℕ} → T < n → AskedS f t now T c p r → ChangesS f t now n c p r

abbrev pub tasks_in : List ℕ → ℕ
tasks_in f = get_or f 0 0

-- sources and assignments are numbered one task after the other, within their limits
pub record Numbers (f : List ℕ) : Type 0 where
  pub tasks : tasks_in f ≤ 32
  pub sources : {T U : ℕ} → T < U → U < tasks_in f → first_at f T + count_at_fn f T ≤ first_at f U
  pub assignments : {T U : ℕ} → T < U → U < tasks_in f → assign_at f T + assigns_at f T ≤ assign_at f U
  pub most_sources : {T : ℕ} → T < tasks_in f → first_at f T + count_at_fn f T ≤ 128
  pub most_assignments : {T : ℕ} → T < tasks_in f → assign_at f T + assigns_at f T ≤ 256

-- ---- which task asks for a row

-- a row that the task T asks for: its own, that an item be requested, or the value of one of its assignments
pub data AskedBy (f : List ℕ) (T : ℕ) : Component → Property → RowValue → Type 0 where
  of_task : {p : Property} {r : RowValue} → AskedBy f T (task № T) p r
  of_request : {c : Component} {r : RowValue} → AskedBy f T c requested r
  of_assignment : {d i : ℕ} → i < assigns_at f T → AskedBy f T (data_item № d) value (time_is (assign_at f T + i))

by_initialise : {f : List ℕ} {t : Table} {now T : ℕ} {c : Component} {p : Property} {r : RowValue} → Initialise t now T c p r → AskedBy f T c p r
by_initialise initialise_1 = of_task
by_initialise initialise_2 = of_task
by_initialise initialise_3 = of_task
by_initialise initialise_4 = of_task
by_initialise initialise_5 = of_task
by_initialise (initialise_9a x) = of_task

by_start : {f : List ℕ} {t : Table} {now T : ℕ} {c : Component} {p : Property} {r : RowValue} → Start t now T c p r → AskedBy f T c p r
by_start start_1 = of_task
by_start start_2 = of_task
by_start start_3 = of_task
by_start (start_4 x) = of_task
by_start start_8 = of_task
by_start (start_9 x y z (initialise_source v w)) = of_request
by_start (start_12 x y) = of_task

by_discard : {f : List ℕ} {t : Table} {now T : ℕ} {c : Component} {p : Property} {r : RowValue} → Discard t now T c p r → AskedBy f T c p r
by_discard discard_1 = of_task
by_discard discard_3 = of_task

by_complete : {f : List ℕ} {now T : ℕ} {c : Component} {p : Property} {r : RowValue} → CompleteS f now T c p r → AskedBy f T c p r
by_complete symbol_1 = of_task
by_complete symbol_2 = of_task
by_complete (symbol_3 i l) = of_assignment l
by_complete symbol_5 = of_task

asked_by : {f : List ℕ} {t : Table} {now T : ℕ} {c : Component} {p : Property} {r : RowValue} → AskedS f t now T c p r → AskedBy f T c p r
asked_by (asked_1 x h) = by_initialise h
asked_by (asked_2 x h) = by_start h
asked_by (asked_3 x h) = by_discard h
asked_by (asked_4 x h) = by_complete h

same_time : {a b : ℕ} → time_is a ≡ time_is b → a ≡ b
same_time e = cc

-- two tasks ask for the same row only if it is a request
two_tasks : (f : List ℕ) (T U : ℕ) → T < U → U < 32 → assign_at f T + assigns_at f T ≤ assign_at f U → {c d : Component} {p : Property} {r v : RowValue} → component_code c ≡ component_code d → r ≡ v → AskedBy f T c p r
    → AskedBy f U d p v → p ≡ requested
two_tasks f T U l m a e g of_task of_task = absurd (let z : ⊥ = omega arith in z)
two_tasks f T U l m a e g of_task of_request = refl
two_tasks f T U l m a e g of_task (of_assignment j) = absurd (let z : ⊥ = omega arith in z)
two_tasks f T U l m a e g of_request h = refl
two_tasks f T U l m a e g (of_assignment i) of_task = absurd (let z : ⊥ = omega arith in z)
two_tasks f T U l m a e g (of_assignment i) (of_assignment j) = absurd (let y = same_time g in let z : ⊥ = omega arith in z)

-- ---- all tasks

-- the marks say the conditions of every task
abbrev pub AllReviewed : List ℕ → List ℕ → Table → ℕ → List Bool → List Bool → List Bool → List Bool → Type 0
AllReviewed s f t now i b d e = (T : ℕ) → T < tasks_in f → Reviewed s f t now T (marked i T) (marked b T) (marked d T) (marked e T)

abbrev pub EachUpto : List ℕ → List ℕ → ℕ → List Bool → List Bool → List Bool → List Bool → ℕ → List ℕ → List ℕ → ℕ → Type 0
EachUpto s f now i b d e k o q m = (t : Table) → Numbers f → AllReviewed s f t now i b d e → Appends o 0 q m (ChangesS f t now k)

abbrev pub EachRows : List ℕ → List ℕ → ℕ → List Bool → List Bool → List Bool → List Bool → List ℕ → List ℕ → ℕ → Type 0
EachRows s f now i b d e o q m = EachUpto s f now i b d e (tasks_in f) o q m

pub each_none : (s f : List ℕ) (now : ℕ) (i b d e : List Bool) (o : List ℕ) → EachUpto s f now i b d e 0 o o 0
each_none s f now i b d e o t l h = appends_as (λ c p r. (λ z. elim z [ ], λ z. absurd (no_row c p r z))) (appends_none o 0)
  where
    no_row : (c : Component) (p : Property) (r : RowValue) → ¬ ChangesS f t now 0 c p r
    no_row c p r (asked_at l z) = omega arith

pub each_more : (s f : List ℕ) (now : ℕ) (i b d e : List Bool) (k : ℕ) (o u : List ℕ) (v : ℕ) (q : List ℕ) (m : ℕ) → (tasks_in f ≤ 32 → k < tasks_in f) → EachUpto s f now i b d e k o u v
    → ReviewRows s f now k (marked i k) (marked b k) (marked d k) (marked e k) u v q m → EachUpto s f now i b d e (k + 1) o q m
each_more s f now i b d e k o u v q m l h g t n all = appends_as (λ c p r. (to c p r, back c p r)) (appends_more apart (h t n all) (g t (all k (l n.tasks))))
  where
    apart : Shared (ChangesS f t now k) (AskedS f t now k)
    apart c j p r y (asked_at {T = T} a z) w =
        let x = l n.tasks in
        let most = n.tasks in
        two_tasks f T k a (omega arith) (n.assignments a x) y refl (asked_by z) (asked_by w)

    to : (c : Component) (p : Property) (r : RowValue) → Either (ChangesS f t now k) (AskedS f t now k) c p r → ChangesS f t now (k + 1) c p r
    to c p r (first (asked_at {T = T} a z)) = asked_at {T = T} (omega arith) z
    to c p r (second z) = asked_at {T = k} (omega arith) z

    back : (c : Component) (p : Property) (r : RowValue) → ChangesS f t now (k + 1) c p r → Either (ChangesS f t now k) (AskedS f t now k) c p r
    back c p r (asked_at {T = T} a z) = go (dec_lt T k)
      where
        go : Dec (T < k) → Either (ChangesS f t now k) (AskedS f t now k) c p r
        go (yes j) = first (asked_at j z)
        go (no j) = let w : T ≡ k = omega arith in second (subst (λ (y : ℕ). AskedS f t now y c p r) w z)

pub each_all : (s f : List ℕ) (now : ℕ) (i b d e : List Bool) (k : ℕ) (o q : List ℕ) (m : ℕ) → (tasks_in f ≤ 32 → k ≡ tasks_in f) → EachUpto s f now i b d e k o q m → EachRows s f now i b d e o q m
each_all s f now i b d e k o q m l h t n all = subst (λ (y : ℕ). Appends o 0 q m (ChangesS f t now y)) (l n.tasks) (h t n all)

-- ---- how many

abbrev pub Few : List ℕ → ℕ → Type 0
Few f m = Numbers f → m ≤ 576

pub record FewUpto (f : List ℕ) (k m : ℕ) : Type 0 where
  pub next : {U : ℕ} → k ≤ U → U < tasks_in f → m ≤ 6 * k + (first_at f U + assign_at f U)
  pub most : m ≤ 6 * k + 384

abbrev pub Counted : List ℕ → ℕ → ℕ → Type 0
Counted f k m = Numbers f → k ≤ tasks_in f → FewUpto f k m

pub few_none : (f : List ℕ) → Counted f 0 0
few_none f h l = record { next = λ i j. omega arith; most = omega arith }

pub few_more : (f : List ℕ) (k v m : ℕ) → m ≤ v + (6 + (count_at_fn f k + assigns_at f k)) → Counted f k v → Counted f (k + 1) m
few_more f k v m e c h l =
    let x = c h (omega arith) in
    let y = x.next {U = k} (omega arith) (omega arith) in
    record {
      next = λ {U = U} i j. (let a = h.sources {T = k} {U = U} (omega arith) j in let b = h.assignments {T = k} {U = U} (omega arith) j in omega arith);
      most = (let a = h.most_sources {T = k} (omega arith) in let b = h.most_assignments {T = k} (omega arith) in omega arith);
    }

pub few_all : (f : List ℕ) (k m : ℕ) → (tasks_in f ≤ 32 → k ≡ tasks_in f) → Counted f k m → Few f m
few_all f k m e c h = let n = h.tasks in let k2 = e n in let x = (c h (omega arith)).most in omega arith

-- ---- the whole review

-- what the tables have to show of every task
pub record Shown (s f : List ℕ) (w : List (List Bool)) (t : Table) : Type 0 where
  pub rows : Rows s t
  pub worked : Worked f w (tasks_in f) t
  pub numbers : Numbers f
  pub startable : (T : ℕ) → T < tasks_in f → Startable s f T t
  pub targets : (T : ℕ) → T < tasks_in f → Targets f (assign_at f T) (assigns_at f T)

-- of every table that they show, where the marks say which expressions are true
abbrev pub Reviews : List ℕ → List ℕ → List (List Bool) → List Bool → List Bool → List Bool → ℕ → List ℕ → List ℕ → ℕ → Type 0
Reviews s f w pre wait ends now o q m =
    (t : Table) → Shown s f w t → Marks (tasks_in f) (Allowed t precondition) pre → Marks (tasks_in f) (Allowed t wait_condition) wait → Marks (tasks_in f) (Ends t) ends
    → Appends o 0 q m (ChangesS f t now (tasks_in f))

pub reviews : (s f : List ℕ) (w : List (List Bool)) (pre wait ends i b x d e : List Bool) (now : ℕ) (o q : List ℕ) (m : ℕ) → Starts s f w pre wait now b → Initialises s f b i → Terminated s f ends x
    → Discarded s f w pre wait x d → Completed s f b d i e → EachRows s f now i b d e o q m → Reviews s f w pre wait ends now o q m
reviews s f w pre wait ends i b x d e now o q m hb hi hx hd he h t shown a c g =
    let n = tasks_in f in
    let starts = hb n t shown.rows shown.worked a c in
    let initialises = hi w n now t shown.rows shown.worked starts in
    let ended = hx w n t shown.rows shown.worked g in
    let discards = hd n t shown.rows shown.worked a c ended in
    let completes = he w n now t shown.rows shown.worked starts discards initialises in
    h t shown.numbers
    (λ T l. record { initialises = initialises T l; starts = starts T l; discards = discards T l; completes = completes T l; startable = shown.startable T l; targets = shown.targets T l })
