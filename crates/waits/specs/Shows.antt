-- Law: tests on the cells, and what they say of every table that they show: the state of a task, its start time, its parent, 8.6.6.
use Rattle.std.specs.Prelude.{ℕ, zero, suc, ◌+◌, ◌-◌, ◌<◌, ◌≤◌, ◌≡◌, refl, Bool, true, ◌||◌, ◌⊎◌, List, eqb, get_or}
use Rattle.std.proofs.Common.{arith, sym, ap, subst, ◌∙◌, inl, inr, eq-eqb, eqb-true, le-leb, leb-true}
use Rattle.std.proofs.Math.Option.{Option, none, some}
use Rattle.paper_expressions.proofs.Laws.Search.{no_clash}
use Rattle.paper_expressions.specs.Values.{in_progress, discarded, completed, TaskState}
use Rattle.paper_expressions.specs.View.{At}
use Rattle.paper_rows.specs.Table.{task, Component, ◌№◌, state, antecedent_tasks, wait_condition, trigger_active, RowValue, state_is, time_is, component_is, components_are, truth_row, Table, Contains}
use Rattle.paper_engine.specs.Conditions.{StartAt, ScheduleConditions}
use Rattle.state.specs.Cell.{state_code, plain_state, plain_truth, time_there, time_number}
use Rattle.state.specs.Layout.{Rows, row_is_fn, row_test, state_column, trigger_column, start_column}
use Rattle.waits.specs.Booleans.{Tests, any_f, is_and, is_or, is_not, is_if, is_as, is_all, is_any}
use Rattle.waits.specs.Twins.{marked, waiting, timed_f, ended_f, over_f, schedule_f, due_f}
use Rattle.waits.specs.Worked.{Parent, Waits, Worked, Allowed}

pub test_is : (b : Bool) → Tests b (b ≡ true)
test_is b = (λ e. e, λ e. e)

pub test_zero : (x : ℕ) → Tests (eqb x 0) (x ≡ 0)
test_zero x = (eqb-true x 0, eq-eqb x 0)

pub same_list : {o : Option RowValue} {l m : List Component} → o ≡ some (components_are l) → o ≡ some (components_are m) → l ≡ m
same_list e f = cc

pub same_plan : {o : Option RowValue} {P Q : ℕ} → o ≡ some (component_is (task № P)) → o ≡ some (component_is (task № Q)) → P ≡ Q
same_plan e f = cc

pub same_task : {c : Component} {A B : ℕ} → c ≡ task № A → c ≡ task № B → A ≡ B
same_task e f = cc

pub no_row : {o : Option RowValue} {r : RowValue} → o ≡ none → ¬ (o ≡ some r)
no_row e f = no_clash (cc)

module _ {s : List ℕ} {t : Table} (rows : Rows s t) where
  pub in_test : (T : ℕ) (x : TaskState) → T < 32 → Tests (row_is_fn s 8 T 5 (state_code x)) (Contains t (task № T) state (state_is x))
  in_test T x l = row_test rows state_column l (plain_state x)

  pub active_test : (T : ℕ) → T < 32 → Tests (row_is_fn s 72 T 2 1) (Contains t (task № T) trigger_active (truth_row true))
  active_test T l = row_test rows trigger_column l (plain_truth true)

  abbrev pub Timed : ℕ → Type 0
  Timed T = (r : ℕ) × StartAt t T r

  pub timed_test : (T : ℕ) → T < 32 → Tests (timed_f s T) (Timed T)
  timed_test T l =
      let h = rows.tasks start_column l in
      is_as (λ e. (_, e)) (λ z. z.1 ∙ ap (λ (r : ℕ). some (time_is r)) (sym (time_number h z.1))) (time_there h)

  pub due_test : (now T : ℕ) → T < 32 → Tests (due_f s now T) ((r : ℕ) × StartAt t T r × (r ≤ now))
  due_test now T l =
      let h = rows.tasks start_column l in
      let x = get_or s (360 + T) 0 in
      is_as (λ z. (z.0.0, z.0.1, subst (λ (r : ℕ). r ≤ now) (time_number h z.0.1) z.1)) (λ z. ((z.0, z.1), subst (λ (r : ℕ). r ≤ now) (sym (time_number h z.1)) z.2))
      (is_and (timed_test T l) (leb-true x now, le-leb x now))

  abbrev pub Ended : ℕ → Type 0
  Ended A = (Contains t (task № A) state (state_is completed) ⊎ Contains t (task № A) state (state_is discarded)) × (¬ Timed A)

  pub ended_test : (A : ℕ) → A < 32 → Tests (ended_f s A) (Ended A)
  ended_test A l = is_and (is_or (in_test A completed l) (in_test A discarded l)) (is_not (timed_test A l))

  module _ {f : List ℕ} {w : List (List Bool)} {n : ℕ} (worked : Worked f w n t) (T : ℕ) (l : T < n) where
    pub mine : Waits (waiting w T) (t (task № T) antecedent_tasks)
    mine = worked.waits l

    pub small : T < 32
    small = let z = worked.number in omega arith

    -- ---- 8.6.6
    pub schedule_test : {wait : Bool} → Tests wait (Allowed t wait_condition T) → Tests (schedule_f s (waiting w T) wait) (ScheduleConditions t T)
    schedule_test {wait} h =
        is_as to back (is_and (is_all (over_f s (waiting w T)) (λ A. marked (waiting w T) A ≡ true → Ended A) 32 (λ A k. is_if (test_is (marked (waiting w T) A)) (ended_test A k))) h)
      where
        to : ((A : ℕ) → A < 32 → marked (waiting w T) A ≡ true → Ended A) × Allowed t wait_condition T → ScheduleConditions t T
        to z =
            record {
              clause_1a = λ {l = m} {i} {A} c a. (over m i A c a).0;
              clause_1b = λ {l = m} {i} {A} {r} c a q. (over m i A c a).1 (r, q);
              clause_2 = λ {e} c. z.1 e c;
            }
          where
            over : (m : List Component) (i A : ℕ) → Contains t (task № T) antecedent_tasks (components_are m) → At m i (task № A) → Ended A
            over m i A c a =
                let k = mine.of c a in
                let e : k.0 ≡ A = same_task k.2 refl in
                subst Ended e (z.0 k.0 k.1 k.3)

        back : ScheduleConditions t T → ((A : ℕ) → A < 32 → marked (waiting w T) A ≡ true → Ended A) × Allowed t wait_condition T
        back r = (λ A k m. let q = mine.all k m in (r.clause_1a q.2 q.3, λ z. r.clause_1b q.2 q.3 z.1), λ e c. r.clause_2 c)

    pub any_test : Tests (any_f (marked (waiting w T)) 32) ((A : ℕ) × (A < 32) × (marked (waiting w T) A ≡ true))
    any_test = is_any (marked (waiting w T)) (λ A. marked (waiting w T) A ≡ true) 32 (λ A k. test_is (marked (waiting w T) A))

  -- ---- 8.6.2

  abbrev pub Runs : ℕ → Type 0
  Runs P = Contains t (task № P) state (state_is in_progress)

  pub parent_test_at : (x : ℕ) {o : Option RowValue} → Parent x o
      → Tests (eqb x 0 || row_is_fn s 8 (x - 1) 5 2) ((P : ℕ) → o ≡ some (component_is (task № P)) → Runs P)
  parent_test_at zero h = (λ e P q. absurd (no_row (h.none_there refl) q), λ k. refl)
  parent_test_at (suc P) {o} h =
      let e : suc P ≡ P + 1 = omega arith in
      let k = h.there e in
      let d : suc P - 1 ≡ P = omega arith in
      let r : Tests (row_is_fn s 8 (suc P - 1) 5 2) (Runs P) = subst (λ (x : ℕ). Tests (row_is_fn s 8 x 5 2) (Runs P)) (sym d) (in_test P in_progress k.0) in
      is_as (to k.1) (λ f. inr (f P k.1)) (is_or (test_zero (suc P)) r)
    where
      to : o ≡ some (component_is (task № P)) → (suc P ≡ 0) ⊎ Runs P → (Q : ℕ) → o ≡ some (component_is (task № Q)) → Runs Q
      to q (inl z) Q j = absurd (omega arith)
      to q (inr z) Q j = subst Runs (same_plan q j) z
