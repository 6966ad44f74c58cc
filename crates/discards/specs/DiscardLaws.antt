-- Law: the tests on the cells are the conditions 8.6.8 and, one step, 8.6.3 of every table that they show.
use Rattle.std.specs.Prelude.{ℕ, zero, suc, ◌+◌, ◌-◌, ◌<◌, ◌≡◌, refl, Bool, true, false, ◌&&◌, ◌||◌, ◌⊎◌, List, [], ◌∷◌, eqb}
use Rattle.std.proofs.Common.{arith, ap, subst, ◌∙◌, inl, inr, ne_eqb}
use Rattle.std.proofs.Math.Decide.{dec_lt}
use Rattle.std.proofs.Math.Option.{Option, none, some}
use Rattle.paper_expressions.proofs.Laws.Search.{no_clash}
use Rattle.paper_expressions.specs.Values.{dormant, in_progress, discarded, completed}
use Rattle.paper_expressions.specs.Expressions.{Expr}
use Rattle.paper_expressions.specs.View.{At, at_first}
use Rattle.paper_rows.specs.Table.{task, Component, ◌№◌, state, antecedent_tasks, precondition, wait_condition, parent_plan, terminal, terminate_condition, state_is, component_is, components_are, expression_is, truth_row, Table, Contains}
use Rattle.paper_engine.specs.Conditions.{IsTrue, StartAt, ScheduleConditions, TerminationConditions, termination_1, termination_2, Discardable, discardable_in_progress, discardable_dormant, discardable_completed, ParentAllows, no_parent_plan, parent_in_progress, Unwanted, unwanted_i, unwanted_ii, DiscardConditions, discard_1i, discard_1ii, discard_2}
use Rattle.paper_rows.proofs.Laws.Seen.{expression_f, sees_expression, unseen}
use Rattle.state.specs.Layout.{Rows, row_is_fn}
use Rattle.waits.specs.Booleans.{Tests, all_f, any_f, is_and, is_or, is_not, is_if, is_as, is_all}
use Rattle.waits.specs.Twins.{marked, waiting, discarded_f, parent_at, parent_f}
use Rattle.waits.specs.Worked.{Parent, Worked, Allowed}
use Rattle.waits.specs.Shows.{test_is, same_list, same_plan, same_task, no_row, in_test, timed_test, mine, any_test, schedule_test, parent_test_at}
use Rattle.marks.specs.Raise.{Below, below_test}
use Rattle.discards.specs.Twins.{ends_f, discardable_f, unwanted_case, own_f, under_f, discard_f}

-- there is a terminate expression, and it is true
abbrev pub Ends : Table → ℕ → Type 0
Ends t T = (e : Expr) × Contains t (task № T) terminate_condition (expression_is e) × IsTrue t e T

module _ {s : List ℕ} {t : Table} (rows : Rows s t) {f : List ℕ} {w : List (List Bool)} {n : ℕ} (worked : Worked f w n t) where
  in32 : {T : ℕ} → T < n → T < 32
  in32 l = let z = worked.number in omega arith

  -- ---- 8.6.8

  abbrev Over : ℕ → Type 0
  Over C = Contains t (task № C) state (state_is completed) × Contains t (task № C) terminal (truth_row true)

  -- a child with its parent's number is a task
  pub child : {C T : ℕ} → C < 32 → parent_at f C ≡ T + 1 → (C < n) × Contains t (task № C) parent_plan (component_is (task № T))
  child {C} {T} l e = go (dec_lt C n)
    where
      go : Dec (C < n) → (C < n) × Contains t (task № C) parent_plan (component_is (task № T))
      go (yes i) = (i, ((worked.parents i).there e).1)
      go (no i) = absurd (let z : parent_at f C ≡ 0 = worked.rest l i in omega arith)

  pub parent_number : {C T : ℕ} → Contains t (task № C) parent_plan (component_is (task № T)) → (C < n) × (parent_at f C ≡ T + 1)
  parent_number {C} {T} h = go (dec_lt C n)
    where
      at : (x : ℕ) → Parent x (t (task № C) parent_plan) → x ≡ T + 1
      at zero p = absurd (no_row (p.none_there refl) h)
      at (suc P) p = let e : suc P ≡ P + 1 = omega arith in e ∙ ap (λ (y : ℕ). y + 1) (same_plan (p.there e).1 h)

      go : Dec (C < n) → (C < n) × (parent_at f C ≡ T + 1)
      go (yes i) = (i, at (parent_at f C) (worked.parents i))
      go (no i) = absurd (worked.past i h)

  pub termination_test : (ends : Bool) (m : List Bool) (T : ℕ) → T < n → Tests ends (Ends t T) → Below f (ends_f s f) 32 m → Tests (ends || marked m T) (TerminationConditions t T)
  termination_test ends m T l h b = is_as to back (is_or h marks)
    where
      marks : Tests (marked m T) ((C : ℕ) × (C < n) × Contains t (task № C) parent_plan (component_is (task № T)) × Over C)
      marks = is_as first second (below_test {Q = λ C. ends_f s f C ≡ true} b (λ C i. test_is (ends_f s f C)) T (in32 l))
        where
          over : {C : ℕ} → C < n → Tests (ends_f s f C) (Over C)
          over {C} j = is_and (in_test rows C completed (in32 j)) (worked.terminals j)

          first : (C : ℕ) × (C < 32) × ((ends_f s f C ≡ true) × (parent_at f C ≡ T + 1)) → (C : ℕ) × (C < n) × Contains t (task № C) parent_plan (component_is (task № T)) × Over C
          first z = let k = child z.1 z.2.1 in (z.0, k.0, k.1, (over k.0).0 z.2.0)

          second : (C : ℕ) × (C < n) × Contains t (task № C) parent_plan (component_is (task № T)) × Over C → (C : ℕ) × (C < 32) × ((ends_f s f C ≡ true) × (parent_at f C ≡ T + 1))
          second z = (z.0, in32 z.1, ((over z.1).1 z.3, (parent_number z.2).1))

      to : Ends t T ⊎ ((C : ℕ) × (C < n) × Contains t (task № C) parent_plan (component_is (task № T)) × Over C) → TerminationConditions t T
      to (inl z) = termination_1 z.1 z.2
      to (inr z) = termination_2 z.2 z.3.0 z.3.1

      back : TerminationConditions t T → Ends t T ⊎ ((C : ℕ) × (C < n) × Contains t (task № C) parent_plan (component_is (task № T)) × Over C)
      back (termination_1 {e} a c) = inl (e, a, c)
      back (termination_2 {T2} a c d) = inr (T2, (parent_number a).0, a, (c, d))

  -- ---- 8.6.3

  abbrev Cases : ℕ → Type 0
  Cases T = Contains t (task № T) state (state_is in_progress) ⊎ (Contains t (task № T) state (state_is dormant) ⊎ (Contains t (task № T) state (state_is completed) × ((r : ℕ) × StartAt t T r)))

  discardable_test : (T : ℕ) → T < n → Tests (discardable_f s T) (Discardable t T)
  discardable_test T l =
      is_as to back (is_or (in_test rows T in_progress (in32 l)) (is_or (in_test rows T dormant (in32 l)) (is_and (in_test rows T completed (in32 l)) (timed_test rows T (in32 l)))))
    where
      to : Cases T → Discardable t T
      to (inl z) = discardable_in_progress z
      to (inr (inl z)) = discardable_dormant z
      to (inr (inr z)) = discardable_completed z.0 z.1.1

      back : Discardable t T → Cases T
      back (discardable_in_progress z) = inl z
      back (discardable_dormant z) = inr (inl z)
      back (discardable_completed {r} z y) = inr (inr (z, (r, y)))

  module _ (T : ℕ) (l : T < n) where
    -- all that it waits for are discarded
    abbrev Dropped : Type 0
    Dropped = (A : ℕ) → A < 32 → marked (waiting w T) A ≡ true → Contains t (task № A) state (state_is discarded)

    abbrev Some : Type 0
    Some = (A : ℕ) × (A < 32) × (marked (waiting w T) A ≡ true)

    dropped_test : Tests (all_f (discarded_f s (waiting w T)) 32) Dropped
    dropped_test = is_all (discarded_f s (waiting w T)) (λ A. marked (waiting w T) A ≡ true → Contains t (task № A) state (state_is discarded)) 32 (λ A k. is_if (test_is (marked (waiting w T) A)) (in_test rows A discarded k))

    unwanted_test : {pre : Bool} → Tests pre (Allowed t precondition T)
        → Tests (unwanted_case (any_f (marked (waiting w T)) 32) (all_f (discarded_f s (waiting w T)) 32) pre) (Unwanted t T)
    unwanted_test {pre} h = is_as to back (is_or (is_and (any_test rows worked T l) dropped_test) (is_not h))
      where
        found : (m : List Component) (i A : ℕ) → Contains t (task № T) antecedent_tasks (components_are m) → At m i (task № A) → Dropped → Unwanted t T
        found [] i A c a d = elim a [ ]
        found (x ∷ m) i A c a d =
            unwanted_i c (λ j B b. let k = (mine rows worked T l).of c b in let e : k.0 ≡ B = same_task k.2 refl in subst (λ (y : ℕ). Contains t (task № y) state (state_is discarded)) e (d k.0 k.1 k.3))

        denied : ¬ Allowed t precondition T → Unwanted t T
        denied d = go (expression_f (t (task № T) precondition)) refl
          where
            same : {a c : Expr} → t (task № T) precondition ≡ some (expression_is a) → t (task № T) precondition ≡ some (expression_is c) → a ≡ c
            same x y = cc

            go : (s : Option Expr) → expression_f (t (task № T) precondition) ≡ s → Unwanted t T
            go (some e) k = let q = sees_expression.has (t (task № T) precondition) e k in unwanted_ii q (λ z. d (λ a c. subst (λ (y : Expr). IsTrue t y T) (same q c) z))
            go none k = absurd (d (λ a c. absurd (unseen sees_expression k c)))

        to : (Some × Dropped) ⊎ (¬ Allowed t precondition T) → Unwanted t T
        to (inl z) = let d = (mine rows worked T l).all z.0.1 z.0.2 in found d.0 d.1 z.0.0 d.2 d.3 z.1
        to (inr z) = denied z

        back : Unwanted t T → (Some × Dropped) ⊎ (¬ Allowed t precondition T)
        back (unwanted_i {c} {l = m} q k) =
            let a = (mine rows worked T l).of q at_first in
            inl ((a.0, a.1, a.3), λ A i e. (let d = (mine rows worked T l).all i e in k d.1 A (subst (λ (x : List Component). At x d.1 (task № A)) (same_list d.2 q) d.3)))
        back (unwanted_ii {e} q k) = inr (λ z. k (z e q))

    -- 2a
    abbrev Fine : Type 0
    Fine = (P : ℕ) → Contains t (task № T) parent_plan (component_is (task № P)) → Contains t (task № P) state (state_is in_progress)

    allows_test : Tests (parent_f s f T) (ParentAllows t T)
    allows_test = is_as to back (parent_test_at rows (parent_at f T) (worked.parents l))
      where
        at : (x : ℕ) → Parent x (t (task № T) parent_plan) → Fine → ParentAllows t T
        at zero p g = no_parent_plan (λ P q. no_row (p.none_there refl) q)
        at (suc P) p g = let e : suc P ≡ P + 1 = omega arith in let k = (p.there e).1 in parent_in_progress k (g P k)

        to : Fine → ParentAllows t T
        to g = at (parent_at f T) (worked.parents l) g

        back : ParentAllows t T → Fine
        back (no_parent_plan g) P q = absurd (g P q)
        back (parent_in_progress {P = Q} a c) P q = subst (λ (y : ℕ). Contains t (task № y) state (state_is in_progress)) (same_plan a q) c

    abbrev Own : Type 0
    Own = ParentAllows t T × (Contains t (task № T) state (state_is dormant) × (ScheduleConditions t T × Unwanted t T))

    own_test : {pre wait : Bool} → Tests pre (Allowed t precondition T) → Tests wait (Allowed t wait_condition T) → Tests (own_f s f (waiting w T) pre wait T) Own
    own_test h k = is_and allows_test (is_and (in_test rows T dormant (in32 l)) (is_and (schedule_test rows worked T l k) (unwanted_test h)))

    abbrev Under : Type 0
    Under = (P : ℕ) × Contains t (task № T) parent_plan (component_is (task № P)) × (Contains t (task № P) state (state_is in_progress) × (Discardable t T × (DiscardConditions t P ⊎ TerminationConditions t P)))

    under_test : (ended m : List Bool) (x : ℕ) → Parent x (t (task № T) parent_plan)
        → ((P : ℕ) → x ≡ P + 1 → Tests (marked m P) (DiscardConditions t P) × Tests (marked ended P) (TerminationConditions t P))
        → Tests (under_f s ended m x T) Under
    under_test ended m zero p known = (λ e. absurd (no_clash (cc)), λ z. absurd (no_row (p.none_there refl) z.1))
    under_test ended m (suc P) p known =
        let e : suc P ≡ P + 1 = omega arith in
        let d : suc P - 1 ≡ P = omega arith in
        let k = known P e in
        let q = p.there e in
        let u : Tests (row_is_fn s 8 (suc P - 1) 5 2 && (discardable_f s T && (marked m (suc P - 1) || marked ended (suc P - 1)))) (Contains t (task № P) state (state_is in_progress) × (Discardable t T × (DiscardConditions t P ⊎ TerminationConditions t P)))
        = rw d (is_and (in_test rows P in_progress q.0) (is_and (discardable_test T l) (is_or k.0 k.1))) in
        let z : eqb (suc P) 0 ≡ false = ne_eqb (suc P) 0 (λ r. absurd (let b : ⊥ = omega arith in b)) in
        rw z (is_as (λ y. (P, q.1, y)) (λ y. subst (λ (Q : ℕ). Contains t (task № Q) state (state_is in_progress) × (Discardable t T × (DiscardConditions t Q ⊎ TerminationConditions t Q))) (same_plan y.1 q.1) y.2) u)

    pub discard_test : {pre wait : Bool} (ended m : List Bool) → Tests pre (Allowed t precondition T) → Tests wait (Allowed t wait_condition T)
        → ((P : ℕ) → parent_at f T ≡ P + 1 → Tests (marked m P) (DiscardConditions t P) × Tests (marked ended P) (TerminationConditions t P))
        → Tests (discard_f s f (waiting w T) pre wait ended m T) (DiscardConditions t T)
    discard_test ended m h k known = is_as to back (is_or (own_test h k) (under_test ended m (parent_at f T) (worked.parents l) known))
      where
        to : Own ⊎ Under → DiscardConditions t T
        to (inl z) = discard_2 z.0 z.1.0 z.1.1.0 z.1.1.1
        to (inr z) = go z.2.1.1
          where
            go : DiscardConditions t z.0 ⊎ TerminationConditions t z.0 → DiscardConditions t T
            go (inl y) = discard_1i z.1 z.2.0 z.2.1.0 y
            go (inr y) = discard_1ii z.1 z.2.0 z.2.1.0 y

        back : DiscardConditions t T → Own ⊎ Under
        back (discard_1i {P} a c d e) = inr (P, a, (c, (d, inl e)))
        back (discard_1ii {P} a c d e) = inr (P, a, (c, (d, inr e)))
        back (discard_2 a c d e) = inl (a, (c, (d, e)))
