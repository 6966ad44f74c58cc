-- Law: the tests on the cells are the condition 8.6.4 of every table that they show.
use Rattle.std.specs.Prelude.{ℕ, ◌+◌, ◌<◌, ◌≡◌, Bool, true, false, not, ◌⊎◌, List}
use Rattle.std.proofs.Common.{arith, ap, subst, inl, inr}
use Rattle.std.proofs.Math.Option.{Option, some}
use Rattle.paper_expressions.proofs.Laws.Tests.{two, contra}
use Rattle.paper_expressions.specs.Values.{in_progress, discarded, completed}
use Rattle.paper_expressions.specs.View.{At}
use Rattle.paper_rows.specs.Table.{task, data_item, source, Component, ◌№◌, a_plan, class, state, parent_plan, confirmatory, confirmed, optional, sources, data_item_of, mandatory, requested, RowValue, state_is, class_is, component_is, components_are, truth_row, Table, Contains}
use Rattle.paper_engine.specs.Conditions.{StartConditions, InitialiseConditions, DiscardConditions, Settled, CompleteConditions}
use Rattle.state.specs.Cell.{plain_truth, row_is}
use Rattle.state.specs.Layout.{Rows, row_test, confirmed_column}
use Rattle.waits.specs.Booleans.{Tests, is_and, is_or, is_not, is_if, is_as, is_all}
use Rattle.waits.specs.Twins.{marked, parent_at, first_at, count_at_fn, item_at}
use Rattle.waits.specs.Worked.{Worked, Marks}
use Rattle.waits.specs.Shows.{test_is, in_test, timed_test, Timed}
use Rattle.marks.specs.Raise.{Below, below_test}
use Rattle.discards.specs.DiscardLaws.{child, parent_number}
use Rattle.completes.specs.Twins.{settled_f, answered_f, sources_f, complete_f}

module _ {s : List ℕ} {t : Table} (rows : Rows s t) {f : List ℕ} {w : List (List Bool)} {n : ℕ} (worked : Worked f w n t) where
  in32 : {T : ℕ} → T < n → T < 32
  in32 l = let z = worked.number in omega arith

  -- ---- 5b

  abbrev Still : ℕ → Type 0
  Still C = (Contains t (task № C) state (state_is completed) ⊎ Contains t (task № C) state (state_is discarded)) × ((¬ Contains t (task № C) state (state_is in_progress)) × (¬ Timed rows C))

  abbrev Idle : ℕ → ℕ → Type 0
  Idle now C = (¬ StartConditions t now C) × ((¬ DiscardConditions t C) × (¬ InitialiseConditions t now C))

  module _ (now : ℕ) (starts discards initialises : List Bool) (hs : Marks n (StartConditions t now) starts) (hd : Marks n (DiscardConditions t) discards) (hi : Marks n (InitialiseConditions t now) initialises) where
    settled_test : (C : ℕ) → C < n → Tests (settled_f s starts discards initialises C) (Settled t now C)
    settled_test C l =
        is_as to back
        (is_and (is_and (is_or (in_test rows C completed (in32 l)) (in_test rows C discarded (in32 l))) (is_and (is_not (in_test rows C in_progress (in32 l))) (is_not (timed_test rows C (in32 l)))))
        (is_and (is_not (hs C l)) (is_and (is_not (hd C l)) (is_not (hi C l)))))
      where
        to : Still C × Idle now C → Settled t now C
        to z =
            record {
              clause_i = inr z.0.0;
              clause_ii = z.0.1.0;
              clause_iii = z.1.0;
              clause_iv = z.1.1.0;
              clause_v = z.1.1.1;
              clause_vi = λ r h. z.0.1.1 (r, h);
            }

        over : Contains t (task № C) optional (truth_row true) ⊎ (Contains t (task № C) state (state_is completed) ⊎ Contains t (task № C) state (state_is discarded))
            → Contains t (task № C) state (state_is completed) ⊎ Contains t (task № C) state (state_is discarded)
        over (inl z) = absurd (worked.no_optional z)
        over (inr z) = z

        back : Settled t now C → Still C × Idle now C
        back r = ((over r.clause_i, (r.clause_ii, λ z. r.clause_vi z.0 z.1)), (r.clause_iii, (r.clause_iv, r.clause_v)))

    -- ---- 5

    abbrev AllSettled : ℕ → Type 0
    AllSettled T = (C : ℕ) → Contains t (task № C) parent_plan (component_is (task № T)) → Settled t now C

    children_test : (pending : List Bool) (T : ℕ) → T < n → Below f (λ C. not (settled_f s starts discards initialises C)) 32 pending → Tests (not (marked pending T)) (AllSettled T)
    children_test pending T l b = is_as to back (is_not (below_test {Q = λ C. not (settled_f s starts discards initialises C) ≡ true} b (λ C i. test_is (not (settled_f s starts discards initialises C))) T (in32 l)))
      where
        to : ¬ ((C : ℕ) × (C < 32) × ((not (settled_f s starts discards initialises C) ≡ true) × (parent_at f C ≡ T + 1))) → AllSettled T
        to d C h = go (two (settled_f s starts discards initialises C))
          where
            p : (C < n) × (parent_at f C ≡ T + 1)
            p = parent_number rows worked h

            go : (settled_f s starts discards initialises C ≡ true) ⊎ (settled_f s starts discards initialises C ≡ false) → Settled t now C
            go (inl e) = (settled_test C p.0).0 e
            go (inr e) = absurd (d (C, in32 p.0, (ap not e, p.1)))

        denied : (b : Bool) → not b ≡ true → b ≡ true → ⊥
        denied true e g = contra e
        denied false e g = contra g

        back : AllSettled T → ¬ ((C : ℕ) × (C < 32) × ((not (settled_f s starts discards initialises C) ≡ true) × (parent_at f C ≡ T + 1)))
        back d z = let k = child rows worked z.1 z.2.1 in denied (settled_f s starts discards initialises z.0) z.2.0 ((settled_test z.0 k.0).1 (d z.0 k.1))

    -- ---- 2

    same_item : {o : Option RowValue} {d e : ℕ} → o ≡ some (component_is (data_item № d)) → o ≡ some (component_is (data_item № e)) → d ≡ e
    same_item p q = cc

    same_list : {o : Option RowValue} {l m : List Component} → o ≡ some (components_are l) → o ≡ some (components_are m) → l ≡ m
    same_list e f = cc

    abbrev Answered : ℕ → Type 0
    Answered T = (i : ℕ) → i < count_at_fn f T → Contains t (source № (first_at f T + i)) mandatory (truth_row true) → Contains t (data_item № item_at f (first_at f T + i)) requested (truth_row false)

    sources_test : (T : ℕ) → T < n → Tests (sources_f s f T) (Answered T)
    sources_test T l =
        is_all (λ i. answered_f s f (first_at f T + i)) (λ i. Contains t (source № (first_at f T + i)) mandatory (truth_row true) → Contains t (data_item № item_at f (first_at f T + i)) requested (truth_row false)) (count_at_fn f T)
        (λ i k. let x = worked.sourced l in is_if (x.required i k) (row_is (rows.asked (x.items i k).0) (plain_truth false)))

    abbrev Clause2 : ℕ → Type 0
    Clause2 T = (m : List Component) (i d : ℕ) (S : Component) → Contains t (task № T) sources (components_are m) → At m i S
        → Contains t S data_item_of (component_is (data_item № d)) → Contains t S mandatory (truth_row true) → Contains t (data_item № d) requested (truth_row false)

    answered_to : (T : ℕ) → T < n → Answered T → Clause2 T
    answered_to T l h m i d S a b c e =
        let x = worked.sourced l in
        let k = x.of a b in
        let y = (x.items i k.0).1 in
        let c' : Contains t (source № (first_at f T + i)) data_item_of (component_is (data_item № d)) = subst (λ (z : Component). Contains t z data_item_of (component_is (data_item № d))) k.1 c in
        let e' : Contains t (source № (first_at f T + i)) mandatory (truth_row true) = subst (λ (z : Component). Contains t z mandatory (truth_row true)) k.1 e in
        subst (λ (z : ℕ). Contains t (data_item № z) requested (truth_row false)) (same_item y c') (h i k.0 e')

    answered_back : (T : ℕ) → T < n → Clause2 T → Answered T
    answered_back T l h i k e =
        let x = worked.sourced l in
        let q = x.all k in
        h q.0 i (item_at f (first_at f T + i)) (source № (first_at f T + i)) q.1 q.2 (x.items i k).1 e

    -- ---- 8.6.4

    pub complete_test : (pending : List Bool) (T : ℕ) → T < n → Below f (λ C. not (settled_f s starts discards initialises C)) 32 pending → Tests (complete_f s f pending T) (CompleteConditions t now T)
    complete_test pending T l b =
        is_as to back
        (is_and (in_test rows T in_progress (in32 l)) (is_and (sources_test T l)
        (is_and (is_if (worked.confirms l) (row_test rows confirmed_column (in32 l) (plain_truth true))) (is_if (worked.plans l) (children_test pending T l b)))))
      where
        to : Contains t (task № T) state (state_is in_progress) × (Answered T × ((Contains t (task № T) confirmatory (truth_row true) → Contains t (task № T) confirmed (truth_row true)) × (Contains t (task № T) class (class_is a_plan) → AllSettled T)))
            → CompleteConditions t now T
        to z =
            record {
              clause_1 = z.0;
              clause_2 = λ {l = m} {i} {d} {S} a c e g. answered_to T l z.1.0 m i d S a c e g;
              clause_3 = z.1.1.0;
              clause_5 = λ {C} a c. z.1.1.1 a C c;
            }

        back : CompleteConditions t now T
            → Contains t (task № T) state (state_is in_progress) × (Answered T × ((Contains t (task № T) confirmatory (truth_row true) → Contains t (task № T) confirmed (truth_row true)) × (Contains t (task № T) class (class_is a_plan) → AllSettled T)))
        back r = (r.clause_1, (answered_back T l (λ m i d S a c e g. r.clause_2 a c e g), (r.clause_3, λ a C c. r.clause_5 a c)))
