-- Law: the tests on the cells are the conditions 8.6.6, 8.6.5, 8.6.2 of every table that they show; and one step of 8.6.1.
use Rattle.std.specs.Prelude.{ℕ, zero, suc, ◌+◌, ◌-◌, ◌<◌, ◌≤◌, ◌≡◌, refl, Bool, true, false, not, ◌&&◌, ◌||◌, ◌⊎◌, List, [], ◌∷◌, eqb}
use Rattle.std.proofs.Common.{arith, sym, subst, inl, inr, ne_eqb}
use Rattle.paper_expressions.proofs.Laws.Search.{no_clash}
use Rattle.paper_expressions.specs.Values.{dormant, completed}
use Rattle.paper_expressions.specs.View.{At, at_first}
use Rattle.paper_rows.specs.Table.{task, Component, ◌№◌, state, antecedent_tasks, precondition, wait_condition, trigger_active, parent_plan, terminal, state_is, component_is, components_are, truth_row, Table, Contains}
use Rattle.paper_engine.specs.Conditions.{StartAt, ScheduleConditions, SomeCompleted, ScheduledStartConditions, StartCase, start_2a, start_2b, start_2c, StartConditions, InitialiseConditions, initialise_1, initialise_2a, initialise_2b}
use Rattle.state.specs.Layout.{Rows, row_is_fn}
use Rattle.waits.specs.Booleans.{Tests, any_f, is_and, is_or, is_not, is_if, is_as, is_any}
use Rattle.waits.specs.Twins.{marked, waiting, completed_f, scheduled_f, parent_at, trigger_f, due_f, start_f, initialise_f}
use Rattle.waits.specs.Worked.{Parent, HasTrigger, Worked, Allowed}
use Rattle.waits.specs.Shows.{test_is, same_list, same_plan, same_task, no_row, in_test, active_test, due_test, mine, small, any_test, schedule_test, parent_test_at}

module _ {s : List ℕ} {t : Table} (rows : Rows s t) where
  module _ {f : List ℕ} {w : List (List Bool)} {n : ℕ} (worked : Worked f w n t) (T : ℕ) (l : T < n) where
    -- ---- 8.6.5
    abbrev Completed : ℕ → Type 0
    Completed A = (marked (waiting w T) A ≡ true) × Contains t (task № A) state (state_is completed)

    abbrev SomeDone : Type 0
    SomeDone = (A : ℕ) × (A < 32) × (marked (waiting w T) A ≡ true) → (A : ℕ) × (A < 32) × Completed A

    completed_test : Tests (any_f (completed_f s (waiting w T)) 32) ((A : ℕ) × (A < 32) × Completed A)
    completed_test = is_any (completed_f s (waiting w T)) Completed 32 (λ A k. is_and (test_is (marked (waiting w T) A)) (in_test rows A completed k))

    pub scheduled_test : {pre wait : Bool} → Tests pre (Allowed t precondition T) → Tests wait (Allowed t wait_condition T)
        → Tests (scheduled_f s (waiting w T) pre wait T) (ScheduledStartConditions t T)
    scheduled_test h k = is_as to back (is_and (in_test rows T dormant (small rows worked T l)) (is_and (schedule_test rows worked T l k) (is_and (is_if (any_test rows worked T l) completed_test) h)))
      where
        to : Contains t (task № T) state (state_is dormant) × (ScheduleConditions t T × (SomeDone × Allowed t precondition T)) → ScheduledStartConditions t T
        to z = record { clause_1 = z.0; clause_2 = z.1.0; clause_3 = λ {c} {l = m} q. some_done c m q; clause_4 = λ {e} q. z.1.1.1 e q }
          where
            some_done : (c : Component) (m : List Component) → Contains t (task № T) antecedent_tasks (components_are (c ∷ m)) → SomeCompleted t (c ∷ m)
            some_done c m q =
                let a = (mine rows worked T l).of q at_first in
                let b = z.1.1.0 (a.0, a.1, a.3) in
                let d = (mine rows worked T l).all b.1 b.2.0 in
                record { i = d.1; A = b.0; at = subst (λ (x : List Component). At x d.1 (task № b.0)) (same_list d.2 q) d.3; row = b.2.1 }

        back : ScheduledStartConditions t T → Contains t (task № T) state (state_is dormant) × (ScheduleConditions t T × (SomeDone × Allowed t precondition T))
        back r = (r.clause_1, (r.clause_2, (done, λ e c. r.clause_4 c)))
          where
            found : (m : List Component) (i A : ℕ) → Contains t (task № T) antecedent_tasks (components_are m) → At m i (task № A) → SomeCompleted t m
            found [] i A c a = elim a [ ]
            found (x ∷ m) i A c a = r.clause_3 c

            done : SomeDone
            done z =
                let d = (mine rows worked T l).all z.1 z.2 in
                let q = found d.0 d.1 z.0 d.2 d.3 in
                let a = (mine rows worked T l).of d.2 q.at in
                let e : a.0 ≡ q.A = same_task a.2 refl in
                (a.0, a.1, (a.3, subst (λ (x : ℕ). Contains t (task № x) state (state_is completed)) (sym e) q.row))

  module _ {f : List ℕ} {w : List (List Bool)} {n : ℕ} (worked : Worked f w n t) (T : ℕ) (l : T < n) where
    below : T < 32
    below = let z = worked.number in omega arith

    case_test : (now : ℕ) {pre wait : Bool} → Tests pre (Allowed t precondition T) → Tests wait (Allowed t wait_condition T)
        → Tests ((scheduled_f s (waiting w T) pre wait T && not (trigger_f f T)) || ((row_is_fn s 72 T 2 1 && row_is_fn s 8 T 5 1) || due_f s now T)) (StartCase t now T)
    case_test now h k =
        is_as to back
        (is_or (is_and (scheduled_test worked T l h k) (is_not (worked.triggers l))) (is_or (is_and (active_test rows T below) (in_test rows T dormant below)) (due_test rows now T below)))
      where
        to : (ScheduledStartConditions t T × (¬ HasTrigger t T)) ⊎ ((Contains t (task № T) trigger_active (truth_row true) × Contains t (task № T) state (state_is dormant)) ⊎ ((r : ℕ) × StartAt t T r × (r ≤ now))) → StartCase t now T
        to (inl z) = start_2a z.0 (λ x e. z.1 (x, e))
        to (inr (inl z)) = start_2b z.0 z.1
        to (inr (inr z)) = start_2c z.1 z.2

        back : StartCase t now T → (ScheduledStartConditions t T × (¬ HasTrigger t T)) ⊎ ((Contains t (task № T) trigger_active (truth_row true) × Contains t (task № T) state (state_is dormant)) ⊎ ((r : ℕ) × StartAt t T r × (r ≤ now)))
        back (start_2a a b) = inl (a, λ z. b z.0 z.1)
        back (start_2b a b) = inr (inl (a, b))
        back (start_2c {r} a b) = inr (inr (r, a, b))

    pub start_test : (now : ℕ) {pre wait : Bool} → Tests pre (Allowed t precondition T) → Tests wait (Allowed t wait_condition T)
        → Tests (start_f s f (waiting w T) pre wait now T) (StartConditions t now T)
    start_test now h k =
        is_as (λ z. record { clause_1 = λ {P} q. z.0 P q; clause_2 = z.1 }) (λ r. (λ P q. r.clause_1 q, r.clause_2))
        (is_and (parent_test_at rows (parent_at f T) (worked.parents l)) (case_test now h k))

    -- ---- 8.6.1, one step

    abbrev Again : Type 0
    Again = Contains t (task № T) state (state_is completed) × (Contains t (task № T) trigger_active (truth_row true) × (¬ Contains t (task № T) terminal (truth_row true)))

    pub initialise_test : (now : ℕ) (starts marks : List Bool)
        → ((P : ℕ) → parent_at f T ≡ P + 1 → Tests (marked starts P) (StartConditions t now P) × Tests (marked marks P) (InitialiseConditions t now P))
        → Tests (initialise_f s f starts marks T) (InitialiseConditions t now T)
    initialise_test now starts marks known =
        go (parent_at f T) (worked.parents l) known (is_and (in_test rows T completed below) (is_and (active_test rows T below) (is_not (worked.terminals l))))
      where
        go : (x : ℕ) → Parent x (t (task № T) parent_plan)
            → ((P : ℕ) → x ≡ P + 1 → Tests (marked starts P) (StartConditions t now P) × Tests (marked marks P) (InitialiseConditions t now P))
            → {a : Bool} → Tests a Again → Tests (a || (not (eqb x 0) && (marked starts (x - 1) || marked marks (x - 1)))) (InitialiseConditions t now T)
        go zero p m {a} h = is_as to back (is_or h nothing)
          where
            nothing : Tests false ⊥
            nothing = (λ e. no_clash (cc), λ e. absurd e)

            to : Again ⊎ ⊥ → InitialiseConditions t now T
            to (inl z) = initialise_1 z.0 z.1.0 z.1.1
            to (inr x5) = elim x5 [ ]

            back : InitialiseConditions t now T → Again ⊎ ⊥
            back (initialise_1 x y z) = inl (x, (y, z))
            back (initialise_2a q z) = absurd (no_row (p.none_there refl) q)
            back (initialise_2b q z) = absurd (no_row (p.none_there refl) q)
        go (suc P) p m {a} h =
            let e : suc P ≡ P + 1 = omega arith in
            let d : suc P - 1 ≡ P = omega arith in
            let k = m P e in
            let u : Tests (marked starts (suc P - 1) || marked marks (suc P - 1)) (StartConditions t now P ⊎ InitialiseConditions t now P) = rw d (is_or k.0 k.1) in
            let z : eqb (suc P) 0 ≡ false = ne_eqb (suc P) 0 (λ q. absurd (let b : ⊥ = omega arith in b)) in
            rw z (is_as to back (is_or h u))
          where
            plan : Contains t (task № T) parent_plan (component_is (task № P))
            plan = let e : suc P ≡ P + 1 = omega arith in (p.there e).1

            to : Again ⊎ (StartConditions t now P ⊎ InitialiseConditions t now P) → InitialiseConditions t now T
            to (inl z) = initialise_1 z.0 z.1.0 z.1.1
            to (inr (inl z)) = initialise_2a plan z
            to (inr (inr z)) = initialise_2b plan z

            back : InitialiseConditions t now T → Again ⊎ (StartConditions t now P ⊎ InitialiseConditions t now P)
            back (initialise_1 x y z) = inl (x, (y, z))
            back (initialise_2a q z) = inr (inl (subst (StartConditions t now) (same_plan q plan) z))
            back (initialise_2b q z) = inr (inr (subst (InitialiseConditions t now) (same_plan q plan) z))
