-- Law: in a table that is kept each computed test is the condition of 8.6 whose twin it is, and of every task exactly one clause of Review fits, the computed one.
-- 8.6.1 and 8.6.3 by recursion up the parent plans, which end at the root in fewer steps than there are tasks.
use Prim.Native.Nat.{ℕ, zero, suc, ◌<◌, ◌≤◌}
use Rattle.std.specs.Prelude.{◌≡◌, refl, Bool, true, false, ◌&&◌, ◌||◌, ◌⊎◌, eqb, leb, ℤ, length, ◌<ℤ◌}
use Rattle.std.proofs.Math.Path.{sym, ap, subst}
use Rattle.std.proofs.Common.{◌∙◌, inl, inr}
use Rattle.std.proofs.Math.Bool.{not}
use Rattle.std.proofs.Math.Option.{Option, none, some}
use mathlib.Core.List.{List, [], ◌∷◌}
use Rattle.std.specs.Int.Signed.{lt_z}
use Rattle.std.proofs.Math.Dec as Decide
use Rattle.paper_expressions.proofs.Laws.Search.{no_clash}
use Rattle.paper_expressions.proofs.Laws.Tests.{contra, two}
use Rattle.paper_expressions.specs.Values.{Scalar, unknown, truth, integer, real, text, Value, one, sequence, TaskState, dormant, in_progress, discarded, completed}
use Rattle.paper_expressions.specs.Types.{Ty, TruthValue, Of}
use Rattle.paper_expressions.specs.View.{View, At, at_first, at_later}
use Rattle.paper_expressions.specs.Expressions.{Expr, HasType}
use Rattle.paper_expressions.specs.Evaluation.{Evaluates}
use Rattle.paper_expressions.proofs.Laws.Typing.{type_kept}
use Rattle.paper_expressions.proofs.Laws.Promise.{Promised, promised, eval_only}
use Rattle.paper_guideline.specs.Structure.{TopLevel, tasks}
use Rattle.paper_guideline.specs.Refusals.{declared_items}
use Rattle.paper_rows.specs.Table
use Table.{Kind, task, data_item, candidate, argument, parameter, source, warning_condition, Component, ◌№◌, a_plan}
use Table.{class, state, antecedent_tasks, precondition, wait_condition, trigger, trigger_active, parent_plan, confirmatory, confirmed, cycle_count, nbr_cycles_value, cycle_until, start_at, optional, terminal, terminate_condition, sources, data_item_of, mandatory, requested}
use Table.{RowValue, state_is, class_is, time_is, expression_is, component_is, components_are, truth_row, integer_row, text_row, Table, Contains, TaskId, ViewOf}
use Rattle.paper_rows.specs.Load.{Adds}
use Rattle.paper_engine.specs.Conditions
use Conditions.{Evaluate, IsTrue, StartAt, ScheduleConditions, SomeCompleted, ScheduledStartConditions, StartCase, start_2a, start_2b, start_2c, StartConditions}
use Conditions.{InitialiseConditions, initialise_1, initialise_2a, initialise_2b, TerminationConditions, termination_1, termination_2}
use Conditions.{Discardable, discardable_in_progress, discardable_dormant, discardable_completed, ParentAllows, no_parent_plan, parent_in_progress, Unwanted, unwanted_i, unwanted_ii, DiscardConditions, discard_1i, discard_1ii, discard_2, Settled, CompleteConditions, CycleConditions}
use Rattle.paper_engine.specs.Operations.{Clause, §8·5·1-1, §8·5·1-2, §8·5·1-3, §8·5·1-4, §8·5·1-5, Review, review_1, review_2, review_3, review_4, review_5}
use Rattle.paper_rows.proofs.Laws.Booleans.{Tests, is_as, is_and, is_or, is_not, is_if, is_yes, is_no, is_equal, is_most, is_false, every_f, is_every, any_f, is_any, all_f, is_all, some_f, is_some}
use Rattle.paper_rows.proofs.Laws.Seen
use Seen.{when_f, there_f, absent_f, is_when, is_there, is_absent, is_held, seen_one, components_f, expression_f, sees_state, sees_class, sees_time, sees_expression, sees_components, sees_truth, sees_text, sees_integer, sees_task, sees_item}
use Rattle.paper_rows.proofs.Laws.Ranks.{is_same_state, is_same_class, is_same_truth}
use Rattle.paper_rows.proofs.Laws.Lawful.{Lawful}
use Rattle.paper_engine.proofs.Laws.CollisionLaws.{one_clause}
use Rattle.paper_engine.proofs.Laws.Kept.{Kept, adds, view_f, view_of, view_sound, same_items, one_view}
use Rattle.paper_engine.proofs.Laws.Attached.{precondition_typed, wait_typed, terminate_typed}
use Rattle.paper_engine.proofs.Laws.Chains.{Up, at_top, up, one_parent, child_id, parent_id, task_below, few_steps}
use Rattle.paper_engine.proofs.Laws.Twins
use Twins.{in_f, says_f, on_task_f, a_task_f, given_f, is_true_f, evaluate_f, true_f, over_f, schedule_f, one_completed_f, scheduled_f, start_f, retriggered_f, initialise_up_f, initialise_f, child_f, termination_f, discardable_f, parent_allows_f, all_discarded_f, unwanted_f, discard_2_f, discard_up_f, discard_f, settled_f, answered_f, complete_f, cycle_f, pick_f, review_f}

-- ---- rows

pub is-in : (t : Table) (T : ℕ) (s : TaskState) → Tests (in_f t T s) (Contains t (task № T) state (state_is s))
is-in t T s = is_held sees_state is_same_state (t (task № T) state) s

pub is_says : (o : Option RowValue) (b : Bool) → Tests (says_f o b) (o ≡ some (truth_row b))
is_says o b = is_held sees_truth is_same_truth o b

-- of the component, if it is a task
is_on_task : {S : ℕ → Type 0} {f : ℕ → Bool} → ((A : ℕ) → Tests (f A) (S A)) → (c : Component) → Tests (on_task_f f c) ((A : ℕ) → c ≡ task № A → S A)
is_on_task {S} d (task № n) = is_as (λ s A e. let q : n ≡ A = cc in subst S q s) (λ h. h n refl) (d n)
is_on_task d (data_item № n) = is_yes (λ A e. absurd (no_clash (cc)))
is_on_task d (candidate № n) = is_yes (λ A e. absurd (no_clash (cc)))
is_on_task d (argument № n) = is_yes (λ A e. absurd (no_clash (cc)))
is_on_task d (parameter № n) = is_yes (λ A e. absurd (no_clash (cc)))
is_on_task d (source № n) = is_yes (λ A e. absurd (no_clash (cc)))
is_on_task d (warning_condition № n) = is_yes (λ A e. absurd (no_clash (cc)))

is_a_task : {S : ℕ → Type 0} {f : ℕ → Bool} → ((A : ℕ) → Tests (f A) (S A)) → (c : Component) → Tests (a_task_f f c) ((A : ℕ) × (c ≡ task № A) × S A)
is_a_task {S} d (task № n) = is_as (λ s. (n, refl, s)) (λ h. let e = h.1 in let q : h.0 ≡ n = cc in subst S q h.2) (d n)
is_a_task d (data_item № n) = is_no (λ h. let e = h.1 in no_clash (cc))
is_a_task d (candidate № n) = is_no (λ h. let e = h.1 in no_clash (cc))
is_a_task d (argument № n) = is_no (λ h. let e = h.1 in no_clash (cc))
is_a_task d (parameter № n) = is_no (λ h. let e = h.1 in no_clash (cc))
is_a_task d (source № n) = is_no (λ h. let e = h.1 in no_clash (cc))
is_a_task d (warning_condition № n) = is_no (λ h. let e = h.1 in no_clash (cc))

is_every_task : {S : ℕ → Type 0} {f : ℕ → Bool} → ((A : ℕ) → Tests (f A) (S A)) → (l : List Component) → Tests (every_f (on_task_f f) l) ((i A : ℕ) → At l i (task № A) → S A)
is_every_task {S} {f} d l =
    is_as (λ h i A q. h i (task № A) q A refl) (λ h i c q A e. h i A (subst (At l i) e q)) (is_every (λ c. (A : ℕ) → c ≡ task № A → S A) (on_task_f f) (is_on_task d) l)

is_some_task : {S : ℕ → Type 0} {f : ℕ → Bool} → ((A : ℕ) → Tests (f A) (S A)) → (l : List Component) → Tests (any_f (a_task_f f) l) ((i : ℕ) × (A : ℕ) × At l i (task № A) × S A)
is_some_task {S} {f} d l =
    is_as (λ h. (h.0, h.3.0, subst (At l h.0) h.3.1 h.2, h.3.2)) (λ h. (h.0, task № h.1, h.2, (h.1, refl, h.3)))
    (is_any (λ c. (A : ℕ) × (c ≡ task № A) × S A) (a_task_f f) (is_a_task d) l)

is_true_value : (w : Value) → Tests (is_true_f w) (w ≡ one (truth true))
is_true_value (one unknown) = is_no (λ e. no_clash (cc))
is_true_value (one (truth true)) = is_yes refl
is_true_value (one (truth false)) = is_no (λ e. no_clash (cc))
is_true_value (one (integer n)) = is_no (λ e. no_clash (cc))
is_true_value (one (real n)) = is_no (λ e. no_clash (cc))
is_true_value (one (text s)) = is_no (λ e. no_clash (cc))
is_true_value (sequence l) = is_no (λ e. no_clash (cc))

module _ {g : List TopLevel} {t : Table} (lawful : Lawful g) (kept : Kept g t) where
  -- ---- 9.1: an expression of the guideline has one value, the computed one, of its type

  pub record ValuedOnce (T : ℕ) (e : Expr) (u : Ty) : Type 0 where
    pub evaluates : Evaluate t e T (evaluate_f g t e T)
    pub only : (w : Value) → Evaluate t e T w → w ≡ evaluate_f g t e T
    pub typed : Of (evaluate_f g t e T) u

  pub valued_once : {T : ℕ} {e : Expr} {u : Ty} → HasType (declared_items g) T e u → ValuedOnce T e u
  unfolding evaluate_f
  valued_once {T} {e} {u} h = go (promised (view_f g t) T (view_sound lawful kept) (type_kept (declared_items g) (view_f g t) T (same_items lawful kept) h))
    where
      go : Promised (view_f g t) T e u → ValuedOnce T e u
      go k =
          let z = k.exactly_one in
          let q = ap given_f (eval_only (view_f g t) T (view_sound lawful kept).apart z.fits) in
          record {
            evaluates = record { view = view_f g t; its = view_of lawful kept; clauses = z.clause; evaluates = subst (Evaluates (view_f g t) T e z.clause) (sym q) z.fits };
            only = λ w y. (z.only (subst (λ (v : View). Evaluates v T e y.clauses w) (one_view y.its (view_of lawful kept)) y.evaluates)).value ∙ sym q;
            typed = subst (λ (w : Value). Of w u) (sym q) k.typed;
          }

  pub is_true : {T : ℕ} {e : Expr} → HasType (declared_items g) T e TruthValue → Tests (true_f g t T e) (IsTrue t e T)
  is_true {T} {e} h =
      let k = valued_once h in
      is_as (λ q. subst (Evaluate t e T) q k.evaluates) (λ z. sym (k.only (one (truth true)) z)) (is_true_value (evaluate_f g t e T))

  is_precondition : (T : ℕ) (e : Expr) → Contains t (task № T) precondition (expression_is e) → Tests (true_f g t T e) (IsTrue t e T)
  is_precondition T e h = is_true (precondition_typed lawful (adds kept (λ x. elim x [ ]) h))

  is_wait : (T : ℕ) (e : Expr) → Contains t (task № T) wait_condition (expression_is e) → Tests (true_f g t T e) (IsTrue t e T)
  is_wait T e h = is_true (wait_typed lawful (adds kept (λ x. elim x [ ]) h))

  is_terminate : (T : ℕ) (e : Expr) → Contains t (task № T) terminate_condition (expression_is e) → Tests (true_f g t T e) (IsTrue t e T)
  is_terminate T e h = is_true (terminate_typed lawful (adds kept (λ x. elim x [ ]) h))

  -- ---- 8.6.6

  abbrev Ended : ℕ → Type 0
  Ended A = Contains t (task № A) state (state_is completed) ⊎ Contains t (task № A) state (state_is discarded)

  is_ended : (A : ℕ) → Tests (in_f t A completed || in_f t A discarded) (Ended A)
  is_ended A = is_or (is-in t A completed) (is-in t A discarded)

  is_over : (A : ℕ) → Tests (over_f g t A) (Ended A × ((r : ℕ) → ¬ StartAt t A r))
  is_over A = is_and (is_ended A) (is_absent sees_time (t (task № A) start_at))

  pub is_schedule : (T : ℕ) → Tests (schedule_f g t T) (ScheduleConditions t T)
  unfolding schedule_f
  is_schedule T =
      is_as (λ h. record { clause_1a = λ {l} {i} {A} c q. (h.0 l c i A q).0; clause_1b = λ {l} {i} {A} {r} c q. (h.0 l c i A q).1 r; clause_2 = λ {e} c. h.1 e c })
      (λ r. (λ l c i A q. (r.clause_1a c q, λ x. r.clause_1b c q), λ e c. r.clause_2 c))
      (is_and (is_when sees_components (t (task № T) antecedent_tasks) (λ l e. is_every_task is_over l)) (is_when sees_expression (t (task № T) wait_condition) (is_wait T)))

  -- ---- 8.6.5

  is_some_completed : (l : List Component) → Tests (any_f (a_task_f (λ A. in_f t A completed)) l) (SomeCompleted t l)
  is_some_completed l = is_as (λ h. record { i = h.0; A = h.1; at = h.2; row = h.3 }) (λ r. (r.i, r.A, r.at, r.row)) (is_some_task (λ A. is-in t A completed) l)

  -- of a sequence, if it is not empty
  abbrev IfSome : List Component → Type 0
  IfSome l = (c : Component) (m : List Component) → l ≡ c ∷ m → SomeCompleted t (c ∷ m)

  is_one_completed : (l : List Component) → Tests (one_completed_f g t l) (IfSome l)
  is_one_completed [] = is_yes (λ c m e. absurd (no_clash (cc)))
  is_one_completed (c ∷ m) = is_as (λ q a b e. subst (SomeCompleted t) e q) (λ f. f c m refl) (is_some_completed (c ∷ m))

  pub is_scheduled : (T : ℕ) → Tests (scheduled_f g t T) (ScheduledStartConditions t T)
  unfolding scheduled_f
  is_scheduled T =
      is_as (λ h. record { clause_1 = h.0; clause_2 = h.1.0; clause_3 = λ {c} {l} k. h.1.1.0 (c ∷ l) k c l refl; clause_4 = λ {e} k. h.1.1.1 e k })
      (λ r. (r.clause_1, (r.clause_2, ((λ l k c m e. r.clause_3 (subst (λ (x : List Component). Contains t (task № T) antecedent_tasks (components_are x)) e k)), λ e k. r.clause_4 k))))
      (is_and (is-in t T dormant) (is_and (is_schedule T)
      (is_and (is_when sees_components (t (task № T) antecedent_tasks) (λ l e. is_one_completed l)) (is_when sees_expression (t (task № T) precondition) (is_precondition T)))))

  -- ---- 8.6.2

  abbrev InProgress : ℕ → Type 0
  InProgress P = Contains t (task № P) state (state_is in_progress)

  abbrev Cases : ℕ → ℕ → Type 0
  Cases now T = (ScheduledStartConditions t T × ((s : List ℕ) → ¬ Contains t (task № T) trigger (text_row s)))
      ⊎ ((Contains t (task № T) trigger_active (truth_row true) × Contains t (task № T) state (state_is dormant)) ⊎ ((r : ℕ) × StartAt t T r × (r ≤ now)))

  start-case : {now T : ℕ} → Cases now T → StartCase t now T
  start-case (inl h) = start_2a h.0 h.1
  start-case (inr (inl h)) = start_2b h.0 h.1
  start-case (inr (inr h)) = start_2c h.1 h.2

  case_start : {now T : ℕ} → StartCase t now T → Cases now T
  case_start (start_2a h n) = inl (h, n)
  case_start (start_2b h k) = inr (inl (h, k))
  case_start (start_2c {r} h l) = inr (inr (r, h, l))

  pub is_start : (now T : ℕ) → Tests (start_f g t now T) (StartConditions t now T)
  unfolding start_f
  is_start now T =
      is_as (λ h. record { clause_1 = λ {P} k. h.0 P k; clause_2 = start-case h.1 }) (λ r. (λ P k. r.clause_1 k, case_start r.clause_2))
      (is_and (is_when sees_task (t (task № T) parent_plan) (λ P e. is-in t P in_progress))
      (is_or (is_and (is_scheduled T) (is_absent sees_text (t (task № T) trigger)))
      (is_or (is_and (is_says (t (task № T) trigger_active) true) (is-in t T dormant)) (is_there sees_time (t (task № T) start_at) (λ r e. is_most r now)))))

  -- ---- 8.6.1

  abbrev Retriggered : ℕ → Type 0
  Retriggered T = Contains t (task № T) state (state_is completed) × (Contains t (task № T) trigger_active (truth_row true) × (¬ Contains t (task № T) terminal (truth_row true)))

  is_retriggered : (T : ℕ) → Tests (retriggered_f g t T) (Retriggered T)
  is_retriggered T = is_and (is-in t T completed) (is_and (is_says (t (task № T) trigger_active) true) (is_not (is_says (t (task № T) terminal) true)))

  abbrev ParentInitialises : ℕ → ℕ → Type 0
  ParentInitialises now T = (P : ℕ) × Contains t (task № T) parent_plan (component_is (task № P)) × (StartConditions t now P ⊎ InitialiseConditions t now P)

  initialises : {now T : ℕ} → Retriggered T ⊎ ParentInitialises now T → InitialiseConditions t now T
  initialises (inl q) = initialise_1 q.0 q.1.0 q.1.1
  initialises (inr (P, h, inl q)) = initialise_2a h q
  initialises (inr (P, h, inr q)) = initialise_2b h q

  initialised_by : {now T : ℕ} → InitialiseConditions t now T → Retriggered T ⊎ ParentInitialises now T
  initialised_by (initialise_1 a b d) = inl (a, (b, d))
  initialised_by (initialise_2a {P} k q) = inr (P, k, inl q)
  initialised_by (initialise_2b {P} k q) = inr (P, k, inr q)

  without_parent : {now T : ℕ} → ((P : ℕ) → ¬ Contains t (task № T) parent_plan (component_is (task № P))) → Retriggered T ⊎ ParentInitialises now T → Retriggered T
  without_parent n (inl q) = q
  without_parent n (inr q) = absurd (n q.0 q.1)

  is_initialise_up : (now n : ℕ) {T : ℕ} → Up t n T → Tests (initialise_up_f g t now n T) (InitialiseConditions t now T)
  unfolding initialise_up_f
  is_initialise_up now zero {T} (at_top m) = is_as (λ q. initialises (inl q)) (λ i. without_parent m (initialised_by i)) (is_retriggered T)
  is_initialise_up now (suc n) {T} (at_top m) =
      is_as initialises initialised_by (is_or (is_retriggered T) (is_there sees_task (t (task № T) parent_plan) (λ P e. absurd (m P e))))
  is_initialise_up now (suc n) {T} (up {P = Q} h c) =
      is_as initialises initialised_by
      (is_or (is_retriggered T) (is_there sees_task (t (task № T) parent_plan)
      (λ P e. is_or (is_start now P) (subst (λ (x : ℕ). Tests (initialise_up_f g t now n x) (InitialiseConditions t now x)) (one_parent h e) (is_initialise_up now n c)))))

  pub is_initialise : (now : ℕ) {T : ℕ} → TaskId t T → Tests (initialise_f g t now T) (InitialiseConditions t now T)
  is_initialise now i = is_initialise_up now (length (tasks g)) (few_steps lawful kept i)

  -- ---- 8.6.8

  is_child : (C T : ℕ) → Tests (child_f g t C T) (Contains t (task № C) parent_plan (component_is (task № T)))
  is_child C T = is_held sees_task is_equal (t (task № C) parent_plan) T

  abbrev Ending : ℕ → ℕ → Type 0
  Ending T C = Contains t (task № C) parent_plan (component_is (task № T)) × (Contains t (task № C) state (state_is completed) × Contains t (task № C) terminal (truth_row true))

  abbrev Terminates : ℕ → Type 0
  Terminates T = ((e : Expr) × Contains t (task № T) terminate_condition (expression_is e) × IsTrue t e T) ⊎ ((C : ℕ) × (C < length (tasks g)) × Ending T C)

  pub is_termination : (T : ℕ) → Tests (termination_f g t T) (TerminationConditions t T)
  unfolding termination_f
  is_termination T =
      is_as to back
      (is_or (is_there sees_expression (t (task № T) terminate_condition) (is_terminate T))
      (is_some (Ending T) (λ C. child_f g t C T && (in_f t C completed && says_f (t (task № C) terminal) true)) (λ C. is_and (is_child C T) (is_and (is-in t C completed) (is_says (t (task № C) terminal) true))) (length (tasks g))))
    where
      to : Terminates T → TerminationConditions t T
      to (inl h) = termination_1 h.1 h.2
      to (inr h) = termination_2 h.2.0 h.2.1.0 h.2.1.1

      back : TerminationConditions t T → Terminates T
      back (termination_1 {e} h k) = inl (e, h, k)
      back (termination_2 {T2} h k l) = inr (T2, task_below lawful kept (child_id lawful kept h), (h, (k, l)))

  -- ---- 8.6.3

  is_discardable : (T : ℕ) → Tests (discardable_f g t T) (Discardable t T)
  is_discardable T = is_as to back (is_or (is-in t T in_progress) (is_or (is-in t T dormant) (is_and (is-in t T completed) (is_not (is_absent sees_time (t (task № T) start_at))))))
    where
      timed : ¬ ((r : ℕ) → ¬ StartAt t T r) → (r : ℕ) × StartAt t T r
      timed n = go (Seen.see_cases sees_time (t (task № T) start_at))
        where
          go : ((r : ℕ) × StartAt t T r) ⊎ ((r : ℕ) → ¬ StartAt t T r) → (r : ℕ) × StartAt t T r
          go (inl h) = h
          go (inr m) = absurd (n m)

      to : Contains t (task № T) state (state_is in_progress) ⊎ (Contains t (task № T) state (state_is dormant) ⊎ (Contains t (task № T) state (state_is completed) × (¬ ((r : ℕ) → ¬ StartAt t T r)))) → Discardable t T
      to (inl h) = discardable_in_progress h
      to (inr (inl h)) = discardable_dormant h
      to (inr (inr (h, n))) = discardable_completed h (timed n).1

      back : Discardable t T → Contains t (task № T) state (state_is in_progress) ⊎ (Contains t (task № T) state (state_is dormant) ⊎ (Contains t (task № T) state (state_is completed) × (¬ ((r : ℕ) → ¬ StartAt t T r))))
      back (discardable_in_progress h) = inl h
      back (discardable_dormant h) = inr (inl h)
      back (discardable_completed {r} h k) = inr (inr (h, λ m. m r k))

  abbrev ParentRuns : ℕ → Type 0
  ParentRuns T = (P : ℕ) × Contains t (task № T) parent_plan (component_is (task № P)) × InProgress P

  is_parent_allows : (T : ℕ) → Tests (parent_allows_f g t T) (ParentAllows t T)
  is_parent_allows T = is_as to back (is_or (is_absent sees_task (t (task № T) parent_plan)) (is_there sees_task (t (task № T) parent_plan) (λ P e. is-in t P in_progress)))
    where
      to : ((P : ℕ) → ¬ Contains t (task № T) parent_plan (component_is (task № P))) ⊎ ParentRuns T → ParentAllows t T
      to (inl n) = no_parent_plan n
      to (inr h) = parent_in_progress h.1 h.2

      back : ParentAllows t T → ((P : ℕ) → ¬ Contains t (task № T) parent_plan (component_is (task № P))) ⊎ ParentRuns T
      back (no_parent_plan n) = inl n
      back (parent_in_progress {P} h k) = inr (P, h, k)

  abbrev AllDiscarded : List Component → Type 0
  AllDiscarded l = (i A : ℕ) → At l i (task № A) → Contains t (task № A) state (state_is discarded)

  abbrev SomeAllDiscarded : List Component → Type 0
  SomeAllDiscarded l = (c : Component) × (m : List Component) × (l ≡ c ∷ m) × AllDiscarded (c ∷ m)

  is_all_discarded : (l : List Component) → Tests (all_discarded_f g t l) (SomeAllDiscarded l)
  is_all_discarded [] = is_no (λ h. let e = h.2 in no_clash (cc))
  is_all_discarded (c ∷ m) = is_as (λ h. (c, m, refl, h)) (λ h. subst AllDiscarded (sym h.2) h.3) (is_every_task (λ A. is-in t A discarded) (c ∷ m))

  abbrev UnwantedBy : ℕ → Type 0
  UnwantedBy T = ((l : List Component) × Contains t (task № T) antecedent_tasks (components_are l) × SomeAllDiscarded l) ⊎ ((e : Expr) × Contains t (task № T) precondition (expression_is e) × (¬ IsTrue t e T))

  is_unwanted : (T : ℕ) → Tests (unwanted_f g t T) (Unwanted t T)
  is_unwanted T =
      is_as to back (is_or (is_there sees_components (t (task № T) antecedent_tasks) (λ l e. is_all_discarded l)) (is_there sees_expression (t (task № T) precondition) (λ e h. is_not (is_precondition T e h))))
    where
      to : UnwantedBy T → Unwanted t T
      to (inl h) = unwanted_i (subst (λ (x : List Component). Contains t (task № T) antecedent_tasks (components_are x)) h.2.2 h.1) h.2.3
      to (inr h) = unwanted_ii h.1 h.2

      back : Unwanted t T → UnwantedBy T
      back (unwanted_i {c} {l} h k) = inl (c ∷ l, h, (c, l, refl, k))
      back (unwanted_ii {e} h n) = inr (e, h, n)

  abbrev Discard2 : ℕ → Type 0
  Discard2 T = ParentAllows t T × (Contains t (task № T) state (state_is dormant) × (ScheduleConditions t T × Unwanted t T))

  is_discard_2 : (T : ℕ) → Tests (discard_2_f g t T) (Discard2 T)
  unfolding discard_2_f
  is_discard_2 T = is_and (is_parent_allows T) (is_and (is-in t T dormant) (is_and (is_schedule T) (is_unwanted T)))

  abbrev ParentDiscards : ℕ → Type 0
  ParentDiscards T = (P : ℕ) × Contains t (task № T) parent_plan (component_is (task № P)) × (InProgress P × (Discardable t T × (DiscardConditions t P ⊎ TerminationConditions t P)))

  discards : {T : ℕ} → ParentDiscards T ⊎ Discard2 T → DiscardConditions t T
  discards (inl (P, h, (a, (b, inl q)))) = discard_1i h a b q
  discards (inl (P, h, (a, (b, inr q)))) = discard_1ii h a b q
  discards (inr q) = discard_2 q.0 q.1.0 q.1.1.0 q.1.1.1

  discarded_by : {T : ℕ} → DiscardConditions t T → ParentDiscards T ⊎ Discard2 T
  discarded_by (discard_1i {P} k i a q) = inl (P, k, (i, (a, inl q)))
  discarded_by (discard_1ii {P} k i a q) = inl (P, k, (i, (a, inr q)))
  discarded_by (discard_2 a b d e) = inr (a, (b, (d, e)))

  not_by_parent : {T : ℕ} → ((P : ℕ) → ¬ Contains t (task № T) parent_plan (component_is (task № P))) → ParentDiscards T ⊎ Discard2 T → Discard2 T
  not_by_parent n (inl q) = absurd (n q.0 q.1)
  not_by_parent n (inr q) = q

  is_discard_up : (n : ℕ) {T : ℕ} → Up t n T → Tests (discard_up_f g t n T) (DiscardConditions t T)
  unfolding discard_up_f
  is_discard_up zero {T} (at_top m) = is_as (λ q. discards (inr q)) (λ d. not_by_parent m (discarded_by d)) (is_discard_2 T)
  is_discard_up (suc n) {T} (at_top m) = is_as discards discarded_by (is_or (is_there sees_task (t (task № T) parent_plan) (λ P e. absurd (m P e))) (is_discard_2 T))
  is_discard_up (suc n) {T} (up {P = Q} h c) =
      is_as discards discarded_by
      (is_or (is_there sees_task (t (task № T) parent_plan)
      (λ P e. is_and (is-in t P in_progress) (is_and (is_discardable T) (is_or (subst (λ (x : ℕ). Tests (discard_up_f g t n x) (DiscardConditions t x)) (one_parent h e) (is_discard_up n c)) (is_termination P)))))
      (is_discard_2 T))

  pub is_discard : {T : ℕ} → TaskId t T → Tests (discard_f g t T) (DiscardConditions t T)
  is_discard i = is_discard_up (length (tasks g)) (few_steps lawful kept i)

  -- ---- 8.6.4

  pub is_settled : (now : ℕ) {C : ℕ} → TaskId t C → Tests (settled_f g t now C) (Settled t now C)
  unfolding settled_f
  is_settled now {C} i =
      is_as (λ q. record { clause_i = q.0; clause_ii = q.1.0; clause_iii = q.1.1.0; clause_iv = q.1.1.1.0; clause_v = q.1.1.1.1.0; clause_vi = q.1.1.1.1.1 })
      (λ q. (q.clause_i, (q.clause_ii, (q.clause_iii, (q.clause_iv, (q.clause_v, q.clause_vi))))))
      (is_and (is_or (is_says (t (task № C) optional) true) (is_ended C))
      (is_and (is_not (is-in t C in_progress)) (is_and (is_not (is_start now C)) (is_and (is_not (is_discard i)) (is_and (is_not (is_initialise now i)) (is_absent sees_time (t (task № C) start_at)))))))

  -- clause 2 of a source
  abbrev Answered : Component → Type 0
  Answered S = (d : ℕ) → Contains t S data_item_of (component_is (data_item № d)) → (Contains t S mandatory (truth_row true) → Contains t (data_item № d) requested (truth_row false))

  is_answered : (S : Component) → Tests (answered_f g t S) (Answered S)
  is_answered S = is_when sees_item (t S data_item_of) (λ d e. is_if (is_says (t S mandatory) true) (is_says (t (data_item № d) requested) false))

  abbrev ChildSettled : ℕ → ℕ → ℕ → Type 0
  ChildSettled now T C = Contains t (task № C) parent_plan (component_is (task № T)) → Settled t now C

  is_child_settled : (now T C : ℕ) → Tests (not (child_f g t C T) || settled_f g t now C) (ChildSettled now T C)
  is_child_settled now T C = go (two (child_f g t C T))
    where
      go : (child_f g t C T ≡ true) ⊎ (child_f g t C T ≡ false) → Tests (not (child_f g t C T) || settled_f g t now C) (ChildSettled now T C)
      go (inl e) = is_if (is_child C T) (is_settled now (child_id lawful kept ((is_child C T).0 e)))
      go (inr e) = (λ q h. absurd (is_false (is_child C T) e h), λ f. off (settled_f g t now C) e)
        where
          off : (b : Bool) {a : Bool} → a ≡ false → (not a || b) ≡ true
          off b q = rw q

  pub is_complete : (now T : ℕ) → Tests (complete_f g t now T) (CompleteConditions t now T)
  unfolding complete_f
  is_complete now T =
      is_as (λ h. record { clause_1 = h.0; clause_2 = λ {l} {i} {d} {S} a b c e. h.1.0 l a i S b d c e; clause_3 = h.1.1.0; clause_5 = λ {C} a b. h.1.1.1 a C (task_below lawful kept (child_id lawful kept b)) b })
      (λ r. (r.clause_1, ((λ l a i S b d c e. r.clause_2 a b c e), (r.clause_3, λ a C l b. r.clause_5 a b))))
      (is_and (is-in t T in_progress)
      (is_and (is_when sees_components (t (task № T) sources) (λ l e. is_every Answered (answered_f g t) is_answered l))
      (is_and (is_if (is_says (t (task № T) confirmatory) true) (is_says (t (task № T) confirmed) true))
      (is_if (is_held sees_class is_same_class (t (task № T) class) a_plan) (is_all (ChildSettled now T) (λ C. not (child_f g t C T) || settled_f g t now C) (is_child_settled now T) (length (tasks g)))))))

  -- ---- 8.6.7      (load sets no cycle_until)

  is_less : (n m : ℤ) → Tests (lt_z n m) (n <ℤ m)
  is_less n m = (λ e. record { lt = subst Decide.T (sym e) tt }, λ h. pass (lt_z n m) h.lt)
    where
      pass : (b : Bool) → Decide.T b → b ≡ true
      pass true h = refl
      pass false h = absurd h

  no_until : {T : ℕ} {e : Expr} → ¬ Contains t (task № T) cycle_until (expression_is e)
  no_until h = go (adds kept (λ x. elim x [ ]) h)
    where
      go : {T : ℕ} {r : RowValue} → ¬ Adds g (task № T) cycle_until r
      go q = elim q [ ]

  pub is_cycle : (T : ℕ) → Tests (cycle_f g t T) (CycleConditions t T)
  unfolding cycle_f
  is_cycle T =
      is_as (λ h. record { count = h.0.0; cycles = h.0.2.0; clause_1a = h.0.1; clause_1b = h.0.2.1; clause_1c = h.0.2.2; clause_2 = λ {e} k. h.1 e k })
      (λ r. ((r.count, r.clause_1a, (r.cycles, r.clause_1b, r.clause_1c)), λ e k. r.clause_2 k))
      (is_and (is_there sees_integer (t (task № T) cycle_count) (λ n e. is_there sees_integer (t (task № T) nbr_cycles_value) (λ m f. is_less n m)))
      (is_when sees_expression (t (task № T) cycle_until) (λ e h. absurd (no_until h))))

  -- ---- 8.5.1: exactly one clause

  pub record OneClause (now T : ℕ) (c : Clause) : Type 0 where
    pub fits : Review t now T c
    pub only : {d : Clause} → Review t now T d → d ≡ c

  clause_fits : {now T : ℕ} (a b c d : Bool) → Tests a (InitialiseConditions t now T) → Tests b (StartConditions t now T) → Tests c (DiscardConditions t T) → Tests d (CompleteConditions t now T)
      → Review t now T (pick_f g t a b c d)
  clause_fits true b c d h i j k = review_1 (h.0 refl)
  clause_fits false true c d h i j k = review_2 (is_false h refl) (i.0 refl)
  clause_fits false false true d h i j k = review_3 (is_false h refl) (is_false i refl) (j.0 refl)
  clause_fits false false false true h i j k = review_4 (is_false h refl) (is_false i refl) (is_false j refl) (k.0 refl)
  clause_fits false false false false h i j k = review_5 (is_false h refl) (is_false i refl) (is_false j refl) (is_false k refl)

  pub review_one : (now : ℕ) {T : ℕ} → TaskId t T → OneClause now T (review_f g t now T)
  unfolding review_f
  review_one now {T} i =
      let k = clause_fits (initialise_f g t now T) (start_f g t now T) (discard_f g t T) (complete_f g t now T) (is_initialise now i) (is_start now T) (is_discard i) (is_complete now T) in
      record { fits = k; only = λ r. one_clause r k }
