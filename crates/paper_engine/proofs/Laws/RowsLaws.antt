-- Law: the rows that a cycle asks for, as a computed list: at most six for each task, one for each assignment and one for each source.
use Rattle.std.specs.Prelude.{ℕ, zero, suc, ◌+◌, ◌*◌, ◌≤◌, ◌<◌, ◌≡◌, Bool, true, false, not, ◌&&◌, ◌||◌, ◌⊎◌, List, [], ◌∷◌, ◌++◌, map, ℤ, pos, ◌+ℤ◌, length}
use Rattle.std.proofs.Common.{arith, ap, subst, ◌∙◌, inl, inr, length-append}
use Rattle.std.proofs.Math.Path.{refl, sym}
use Rattle.std.proofs.Math.Option.{Option, none, some}
use Rattle.std.proofs.lemmas.List.{length-map}
use Rattle.paper_expressions.specs.Bytes.{folded, Alike}
use Rattle.paper_expressions.proofs.Laws.Search.{no_clash, at_one, alikeb, alike_reflects, index_f, Looked, found, missing, looked}
use Rattle.paper_expressions.specs.Values.{Value, dormant, in_progress, discarded, completed}
use Rattle.paper_expressions.specs.View.{View, Item, At, at_first, at_later, ResolveData, resolve_data_2}
use Rattle.paper_expressions.specs.Clauses as Evaluation
use Rattle.paper_expressions.specs.Expressions.{Expr}
use Rattle.paper_guideline.specs.Structure
use Structure.{Assignment, Attribute, Placed, Task, TopLevel, tasks}
use Rattle.paper_guideline.specs.Parts.{Source, sources_of, assignments, sources}
use Rattle.paper_guideline.specs.Limits.{task_limit, assignment_limit, source_limit}
use Rattle.paper_guideline.specs.Refusals.{declared_items}
use Rattle.paper_rows.specs.Table as Table
use Table.{task, data_item, source, Component, ◌№◌, an_enquiry, an_action, Assigns, Property, class, state, trigger_active, postcondition, confirmed, cycle_count, nbr_cycles_value, cycle_interval, cycle_interval_units, start_at, in_progress_time, discarded_time, completed_time, procedure, actual_procedure, value, data_item_of, requested}
use Table.{RowValue, value_is, state_is, class_is, time_is, expression_is, assertion_is, component_is, components_are, unknown_row, truth_row, integer_row, text_row, Contains, TaskId, ViewOf}
use Rattle.paper_rows.specs.Load
use Load.{InstantiateTask, SetTaskAttribute, task_4, assigns, numbered, Adds, source_5, attribute_5_postcondition}
use Rattle.paper_engine.specs.Conditions.{Evaluate, CycleConditions}
use Rattle.paper_engine.specs.Operations
use Operations.{Clause, §8·5·1-1, §8·5·1-2, §8·5·1-3, §8·5·1-4, §8·5·1-5, Review, Initialise, initialise_1, initialise_2, initialise_3, initialise_4, initialise_5, initialise_9a, InitialiseSource, initialise_source, Start, start_1, start_2, start_3, start_4, start_8, start_9, start_12}
use Operations.{Discard, discard_1, discard_3, ResolveTarget, target_2, StoredAs, as_it_is, EnactAssignment, assertion_1, EnactAssertion, assertion_2, SetStartAt, start_at_2, Complete, complete_1, complete_2, complete_3, complete_4, complete_5, Asks, asks_1, asks_2, asks_3, asks_4, Changes, asked_by}
use Rattle.paper_rows.proofs.Laws.Booleans.{Tests, is_as, is_and, is_or, is_not}
use Rattle.paper_rows.proofs.Laws.Seen
use Seen.{there_f, absent_f, is_absent, is_held, see_cases, class_f, expression_f, assertion_f, components_f, truth_f, text_f, integer_f, item_f, item_is, sees_class, sees_expression, sees_assertion, sees_components, sees_text, sees_integer, sees_item}
use Rattle.paper_rows.proofs.Laws.Ranks.{same_class, is_same_class}
use Rattle.paper_rows.proofs.Laws.RowLists
use RowLists.{Rows, Row, a_row, Listed, Only, it, listed_only, listed_none, listed_as, ◌or◌, listed_or, only_if, listed_if, what_f, listed_held, Each, each_f, listed_each, total, each_most, if_most, what_most}
use Rattle.paper_rows.proofs.Laws.Lists.{each}
use Rattle.paper_guideline.specs.Parts.{assigned_in, assignments_of}
use Rattle.paper_rows.proofs.Laws.Lawful.{Lawful, defined}
use Rattle.paper_engine.proofs.Laws.CollisionLaws.{one_clause}
use Rattle.paper_engine.proofs.Laws.Kept.{Kept, adds, instantiated, task_id, fixed_postcondition, fixed_sources, view_f, view_of, view_sound, same_items, one_view}
use Rattle.paper_engine.proofs.Laws.Attached.{Assigned, assigned_typed}
use Rattle.paper_engine.proofs.Laws.Twins.{says_f, evaluate_f, cycle_f, review_f}
use Rattle.paper_engine.proofs.Laws.ReviewLaws.{is_says, is_cycle, ValuedOnce, valued_once, OneClause, review_one}

-- ---- the rows of each operation, computed

abbrev action_f : Table.Table → ℕ → Bool
action_f t T = there_f (class_f (t (task № T) class)) (λ k. same_class k an_action)

abbrev initialise_rows : Table.Table → ℕ → List Row
initialise_rows t T =
    (a_row (task № T) state (state_is dormant) ∷ []) ++ ((a_row (task № T) cycle_count (integer_row (pos 0)) ∷ []) ++ ((a_row (task № T) start_at unknown_row ∷ [])
    ++ ((a_row (task № T) trigger_active (truth_row false) ∷ []) ++ ((a_row (task № T) nbr_cycles_value unknown_row ∷ []) ++ only_if (action_f t T) (a_row (task № T) actual_procedure unknown_row ∷ [])))))

abbrev source_rows : Table.Table → Component → List Row
source_rows t S = what_f (item_f (t S data_item_of)) (λ d. only_if (not (says_f (t (data_item № d) requested) true)) (a_row (data_item № d) requested (truth_row true) ∷ []))

abbrev own_start_rows : Table.Table → ℕ → ℕ → List Row
own_start_rows t now T =
    (a_row (task № T) state (state_is in_progress) ∷ []) ++ ((a_row (task № T) start_at unknown_row ∷ []) ++ ((a_row (task № T) in_progress_time (time_is now) ∷ [])
    ++ (what_f (integer_f (t (task № T) cycle_count)) (λ n. a_row (task № T) cycle_count (integer_row (n +ℤ pos 1)) ∷ []) ++ ((a_row (task № T) confirmed (truth_row false) ∷ [])
    ++ only_if (action_f t T && absent_f (expression_f (t (task № T) procedure))) (a_row (task № T) actual_procedure unknown_row ∷ [])))))

abbrev source_start_rows : Table.Table → ℕ → List Row
source_start_rows t T = only_if (there_f (class_f (t (task № T) class)) (λ k. same_class k an_enquiry)) (what_f (components_f (t (task № T) Table.sources)) (each_f (λ i S. source_rows t S)))

abbrev discard_rows : ℕ → ℕ → List Row
discard_rows now T = (a_row (task № T) state (state_is discarded) ∷ []) ++ (a_row (task № T) discarded_time (time_is now) ∷ [])

-- the item that an assignment names
unfoldable pub target_f : List TopLevel → Table.Table → List ℕ → Option ℕ
target_f g t a = index_f (λ (x : Item). alikeb x.name a) (view_f g t).items

abbrev assignment_rows : List TopLevel → Table.Table → ℕ → Assigns → List Row
assignment_rows g t T a = what_f (target_f g t a.target) (λ d. a_row (data_item № d) value (value_is (evaluate_f g t a.assigned T)) ∷ [])

abbrev interval_f : Table.Table → ℕ → Bool
interval_f t T = absent_f (expression_f (t (task № T) cycle_interval)) || absent_f (text_f (t (task № T) cycle_interval_units))

abbrev complete_rows : List TopLevel → Table.Table → ℕ → ℕ → List Row
complete_rows g t now T =
    (a_row (task № T) state (state_is completed) ∷ []) ++ ((a_row (task № T) completed_time (time_is now) ∷ [])
    ++ (only_if (cycle_f g t T) (only_if (interval_f t T) (a_row (task № T) start_at (time_is now) ∷ [])) ++ (only_if (not (cycle_f g t T)) (a_row (task № T) start_at unknown_row ∷ [])
    ++ what_f (assertion_f (t (task № T) postcondition)) (each_f (λ i a. assignment_rows g t T a)))))

abbrev rows_by : List TopLevel → Table.Table → ℕ → ℕ → Clause → List Row
rows_by g t now T §8·5·1-1 = initialise_rows t T
rows_by g t now T §8·5·1-2 = own_start_rows t now T ++ source_start_rows t T
rows_by g t now T §8·5·1-3 = discard_rows now T
rows_by g t now T §8·5·1-4 = complete_rows g t now T
rows_by g t now T §8·5·1-5 = []

unfoldable pub changes_f : List TopLevel → Table.Table → ℕ → List Row
changes_f g t now = each_f (λ T (k : Task). rows_by g t now T (review_f g t now T)) (tasks g)

-- ---- they are the rows: 8.5.2

is_class : (t : Table.Table) (T : ℕ) (k : Table.Class) → Tests (there_f (class_f (t (task № T) class)) (λ x. same_class x k)) (Contains t (task № T) class (class_is k))
is_class t T k = is_held sees_class is_same_class (t (task № T) class) k

abbrev InitialiseRows : Table.Table → ℕ → Rows
InitialiseRows t T = Only (task № T) state (state_is dormant) or (Only (task № T) cycle_count (integer_row (pos 0)) or (Only (task № T) start_at unknown_row
    or (Only (task № T) trigger_active (truth_row false) or (Only (task № T) nbr_cycles_value unknown_row
    or (λ c p r. Contains t (task № T) class (class_is an_action) × Only (task № T) actual_procedure unknown_row c p r)))))

initialise_listed : (t : Table.Table) (now T : ℕ) → Listed (Initialise t now T) (initialise_rows t T)
initialise_listed t now T =
    listed_as to back
    (listed_or (listed_only _ _ _) (listed_or (listed_only _ _ _) (listed_or (listed_only _ _ _) (listed_or (listed_only _ _ _) (listed_or (listed_only _ _ _) (listed_if (is_class t T an_action) (listed_only _ _ _)))))))
  where
    to : (c : Component) (p : Property) (r : RowValue) → InitialiseRows t T c p r → Initialise t now T c p r
    to c p r (inl it) = initialise_1
    to c p r (inr (inl it)) = initialise_2
    to c p r (inr (inr (inl it))) = initialise_3
    to c p r (inr (inr (inr (inl it)))) = initialise_4
    to c p r (inr (inr (inr (inr (inl it))))) = initialise_5
    to c p r (inr (inr (inr (inr (inr (h, it)))))) = initialise_9a h

    back : (c : Component) (p : Property) (r : RowValue) → Initialise t now T c p r → InitialiseRows t T c p r
    back c p r initialise_1 = inl it
    back c p r initialise_2 = inr (inl it)
    back c p r initialise_3 = inr (inr (inl it))
    back c p r initialise_4 = inr (inr (inr (inl it)))
    back c p r initialise_5 = inr (inr (inr (inr (inl it))))
    back c p r (initialise_9a h) = inr (inr (inr (inr (inr (h, it)))))

-- ---- 8.5.4

discard_listed : (t : Table.Table) (now T : ℕ) → Listed (Discard t now T) (discard_rows now T)
discard_listed t now T = listed_as to back (listed_or (listed_only _ _ _) (listed_only _ _ _))
  where
    to : (c : Component) (p : Property) (r : RowValue) → Only (task № T) state (state_is discarded) c p r ⊎ Only (task № T) discarded_time (time_is now) c p r → Discard t now T c p r
    to c p r (inl it) = discard_1
    to c p r (inr it) = discard_3

    back : (c : Component) (p : Property) (r : RowValue) → Discard t now T c p r → Only (task № T) state (state_is discarded) c p r ⊎ Only (task № T) discarded_time (time_is now) c p r
    back c p r discard_1 = inl it
    back c p r discard_3 = inr it

-- ---- 8.5.12, 8.5.3

source_listed : (t : Table.Table) (S : Component) → Listed (InitialiseSource t S) (source_rows t S)
source_listed t S = listed_as to back (listed_held sees_item (t S data_item_of) (λ d e. listed_if (is_not (is_says (t (data_item № d) requested) true)) (listed_only _ _ _)))
  where
    to : (c : Component) (p : Property) (r : RowValue)
        → (d : ℕ) × (t S data_item_of ≡ some (item_is d)) × ((¬ Contains t (data_item № d) requested (truth_row true)) × Only (data_item № d) requested (truth_row true) c p r) → InitialiseSource t S c p r
    to c p r (d, e, (n, it)) = initialise_source e n

    back : (c : Component) (p : Property) (r : RowValue) → InitialiseSource t S c p r
        → (d : ℕ) × (t S data_item_of ≡ some (item_is d)) × ((¬ Contains t (data_item № d) requested (truth_row true)) × Only (data_item № d) requested (truth_row true) c p r)
    back c p r (initialise_source {d} h n) = (d, h, (n, it))

abbrev OwnStart : Table.Table → ℕ → ℕ → Rows
OwnStart t now T = Only (task № T) state (state_is in_progress) or (Only (task № T) start_at unknown_row or (Only (task № T) in_progress_time (time_is now)
    or ((λ c p r. (n : ℤ) × Contains t (task № T) cycle_count (integer_row n) × Only (task № T) cycle_count (integer_row (n +ℤ pos 1)) c p r)
    or (Only (task № T) confirmed (truth_row false)
    or (λ c p r. (Contains t (task № T) class (class_is an_action) × ((e : Expr) → ¬ Contains t (task № T) procedure (expression_is e))) × Only (task № T) actual_procedure unknown_row c p r)))))

own_start : (t : Table.Table) (now T : ℕ) → Listed (OwnStart t now T) (own_start_rows t now T)
own_start t now T =
    listed_or (listed_only _ _ _) (listed_or (listed_only _ _ _) (listed_or (listed_only _ _ _)
    (listed_or (listed_held sees_integer (t (task № T) cycle_count) (λ n e. listed_only _ _ _)) (listed_or (listed_only _ _ _)
    (listed_if (is_and (is_class t T an_action) (is_absent sees_expression (t (task № T) procedure))) (listed_only _ _ _))))))

abbrev SourceStart : Table.Table → ℕ → Rows
SourceStart t T = λ c p r. Contains t (task № T) class (class_is an_enquiry) × ((l : List Component) × Contains t (task № T) Table.sources (components_are l) × Each (λ i S. InitialiseSource t S) l c p r)

start_to : (t : Table.Table) (now T : ℕ) (c : Component) (p : Property) (r : RowValue) → OwnStart t now T c p r ⊎ SourceStart t T c p r → Start t now T c p r
start_to t now T c p r (inl (inl it)) = start_1
start_to t now T c p r (inl (inr (inl it))) = start_2
start_to t now T c p r (inl (inr (inr (inl it)))) = start_3
start_to t now T c p r (inl (inr (inr (inr (inl (n, h, it)))))) = start_4 h
start_to t now T c p r (inl (inr (inr (inr (inr (inl it)))))) = start_8
start_to t now T c p r (inl (inr (inr (inr (inr (inr ((h, n), it))))))) = start_12 h n
start_to t now T c p r (inr (h, (l, k, (i, S, a, q)))) = start_9 h k a q

start_back : (t : Table.Table) (now T : ℕ) (c : Component) (p : Property) (r : RowValue) → Start t now T c p r → OwnStart t now T c p r ⊎ SourceStart t T c p r
start_back t now T c p r start_1 = inl (inl it)
start_back t now T c p r start_2 = inl (inr (inl it))
start_back t now T c p r start_3 = inl (inr (inr (inl it)))
start_back t now T c p r (start_4 {n} h) = inl (inr (inr (inr (inl (n, h, it)))))
start_back t now T c p r start_8 = inl (inr (inr (inr (inr (inl it)))))
start_back t now T c p r (start_9 {l} {i} {S} h k a q) = inr (h, (l, k, (i, S, a, q)))
start_back t now T c p r (start_12 h n) = inl (inr (inr (inr (inr (inr ((h, n), it))))))

start_listed : (t : Table.Table) (now T : ℕ) → Listed (Start t now T) (own_start_rows t now T ++ source_start_rows t T)
start_listed t now T =
    listed_as (start_to t now T) (start_back t now T)
    (listed_or (own_start t now T) (listed_if (is_class t T an_enquiry) (listed_held sees_components (t (task № T) Table.sources) (λ l e. listed_each (λ i S. InitialiseSource t S) (λ i S. source_rows t S) l (λ i S h. source_listed t S)))))

-- ---- 8.5.11, 8.5.5

module _ {g : List TopLevel} {t : Table.Table} (lawful : Lawful g) (kept : Kept g t) where
  -- the name of an assigned item finds one item, the computed one
  pub record ResolvedOnce (a : List ℕ) : Type 0 where
    pub item : ℕ
    pub is : target_f g t a ≡ some item
    pub resolves : ResolveTarget (view_f g t) a item
    pub only : (v : View) (d : ℕ) → ViewOf t v → ResolveTarget v a d → d ≡ item

  pub resolved_once : {T : ℕ} {a : Assigns} → Assigned g T a → ResolvedOnce a.target
  unfolding target_f
  resolved_once {T} {a} k = go k.resolves (target_f g t a.target) refl (looked (λ (x : Item). Alike x.name a.target) (λ (x : Item). alikeb x.name a.target) (λ x. alike_reflects x.name a.target) (view_f g t).items)
    where
      one : {d : ℕ} {x : Item} (v : View) (e : ℕ) → At (view_f g t).items d x → Alike x.name a.target → ViewOf t v → ResolveTarget v a.target e → e ≡ d
      one {d} {x} v e h f o q = same (subst (λ (z : View). ResolveTarget z a.target e) (one_view o (view_of lawful kept)) q)
        where
          same : ResolveTarget (view_f g t) a.target e → e ≡ d
          same (target_2 i j) = (view_sound lawful kept).apart.items i h (j ∙ sym f)

      go : {c : Evaluation.Clause} {d : ℕ} → ResolveData (declared_items g) T a.target c (some d) → (o : Option ℕ) → target_f g t a.target ≡ o → Looked (λ (x : Item). Alike x.name a.target) (view_f g t).items o → ResolvedOnce a.target
      go r o e (found {i} {x} h f) = record { item = i; is = e; resolves = target_2 h f; only = λ v d u q. one v d h f u q }
      go (resolve_data_2 {x} h f) o e (missing m) = let y = (same_items lawful kept).to h in absurd (m _ y.0 y.1 (ap folded y.2 ∙ f))

  assignment_listed : {T : ℕ} {a : Assigns} → Assigned g T a → Listed (EnactAssignment t T a) (assignment_rows g t T a)
  assignment_listed {T} {a} k = go (resolved_once k) (valued_once lawful kept k.has_type)
    where
      go : ResolvedOnce a.target → ValuedOnce lawful kept T a.assigned k.type → Listed (EnactAssignment t T a) (assignment_rows g t T a)
      go d w = rw d.is (listed_as to back (listed_only (data_item № d.item) value (value_is (evaluate_f g t a.assigned T))))
        where
          to : (c : Component) (p : Property) (r : RowValue) → Only (data_item № d.item) value (value_is (evaluate_f g t a.assigned T)) c p r → EnactAssignment t T a c p r
          to c p r it = assertion_1 (view_of lawful kept) d.resolves w.evaluates as_it_is

          back : (c : Component) (p : Property) (r : RowValue) → EnactAssignment t T a c p r → Only (data_item № d.item) value (value_is (evaluate_f g t a.assigned T)) c p r
          back c p r (assertion_1 {v} {d = x} {w = u} o q e as_it_is) =
              subst (λ (z : ℕ). Only (data_item № d.item) value (value_is (evaluate_f g t a.assigned T)) (data_item № z) value (value_is u)) (sym (d.only v x o q))
              (subst (λ (z : Value). Only (data_item № d.item) value (value_is (evaluate_f g t a.assigned T)) (data_item № d.item) value (value_is z)) (sym (w.only u e)) it)

  assertion_listed : {T : ℕ} (l : List Assigns) → Contains t (task № T) postcondition (assertion_is l) → Listed (EnactAssertion t T l) (each_f (λ i a. assignment_rows g t T a) l)
  assertion_listed {T} l h =
      listed_as to back (listed_each (λ i a. EnactAssignment t T a) (λ i a. assignment_rows g t T a) l (λ i a q. assignment_listed (assigned_typed lawful (adds kept fixed_postcondition h) q)))
    where
      to : (c : Component) (p : Property) (r : RowValue) → Each (λ i a. EnactAssignment t T a) l c p r → EnactAssertion t T l c p r
      to c p r (i, a, h, k) = assertion_2 h k

      back : (c : Component) (p : Property) (r : RowValue) → EnactAssertion t T l c p r → Each (λ i a. EnactAssignment t T a) l c p r
      back c p r (assertion_2 {i} {a} h k) = (i, a, h, k)

  abbrev NoInterval : ℕ → Type 0
  NoInterval T = (e : Expr) (u : List ℕ) → ¬ (Contains t (task № T) cycle_interval (expression_is e) × Contains t (task № T) cycle_interval_units (text_row u))

  is_interval : (T : ℕ) → Tests (interval_f t T) (NoInterval T)
  is_interval T = is_as to (λ f. back f (see_cases sees_expression (t (task № T) cycle_interval)) (see_cases sees_text (t (task № T) cycle_interval_units))) (is_or (is_absent sees_expression (t (task № T) cycle_interval)) (is_absent sees_text (t (task № T) cycle_interval_units)))
    where
      to : ((e : Expr) → ¬ Contains t (task № T) cycle_interval (expression_is e)) ⊎ ((u : List ℕ) → ¬ Contains t (task № T) cycle_interval_units (text_row u)) → NoInterval T
      to (inl n) e u h = n e h.0
      to (inr n) e u h = n u h.1

      back : NoInterval T → ((e : Expr) × Contains t (task № T) cycle_interval (expression_is e)) ⊎ ((e : Expr) → ¬ Contains t (task № T) cycle_interval (expression_is e))
          → ((u : List ℕ) × Contains t (task № T) cycle_interval_units (text_row u)) ⊎ ((u : List ℕ) → ¬ Contains t (task № T) cycle_interval_units (text_row u))
          → ((e : Expr) → ¬ Contains t (task № T) cycle_interval (expression_is e)) ⊎ ((u : List ℕ) → ¬ Contains t (task № T) cycle_interval_units (text_row u))
      back f (inr n) k = inl n
      back f (inl h) (inr n) = inr n
      back f (inl h) (inl k) = absurd (f h.0 k.0 (h.1, k.1))

  abbrev CompleteRows : ℕ → ℕ → Rows
  CompleteRows now T = Only (task № T) state (state_is completed) or (Only (task № T) completed_time (time_is now)
      or ((λ c p r. CycleConditions t T × (NoInterval T × Only (task № T) start_at (time_is now) c p r)) or ((λ c p r. (¬ CycleConditions t T) × Only (task № T) start_at unknown_row c p r)
      or (λ c p r. (l : List Assigns) × Contains t (task № T) postcondition (assertion_is l) × EnactAssertion t T l c p r))))

  complete_listed : (now T : ℕ) → Listed (Complete t now T) (complete_rows g t now T)
  complete_listed now T =
      listed_as to back
      (listed_or (listed_only _ _ _) (listed_or (listed_only _ _ _) (listed_or (listed_if (is_cycle lawful kept T) (listed_if (is_interval T) (listed_only _ _ _)))
      (listed_or (listed_if (is_not (is_cycle lawful kept T)) (listed_only _ _ _)) (listed_held sees_assertion (t (task № T) postcondition) (λ l e. assertion_listed l e))))))
    where
      to : (c : Component) (p : Property) (r : RowValue) → CompleteRows now T c p r → Complete t now T c p r
      to c p r (inl it) = complete_1
      to c p r (inr (inl it)) = complete_2
      to c p r (inr (inr (inl (h, (n, it))))) = complete_4 h (start_at_2 n)
      to c p r (inr (inr (inr (inl (n, it))))) = complete_5 n
      to c p r (inr (inr (inr (inr (l, h, k))))) = complete_3 h k

      back : (c : Component) (p : Property) (r : RowValue) → Complete t now T c p r → CompleteRows now T c p r
      back c p r complete_1 = inl it
      back c p r complete_2 = inr (inl it)
      back c p r (complete_3 {l} h k) = inr (inr (inr (inr (l, h, k))))
      back c p r (complete_4 h (start_at_2 n)) = inr (inr (inl (h, (n, it))))
      back c p r (complete_5 n) = inr (inr (inr (inl (n, it))))

  -- ---- the rows of one review

  other : {now T : ℕ} {a b : Clause} {A : Type 0} → Review t now T a → Review t now T b → ¬ (a ≡ b) → A
  other h m n = absurd (n (one_clause h m))

  back_1 : {now T : ℕ} → Review t now T §8·5·1-1 → (c : Component) (p : Property) (r : RowValue) → Asks t now T c p r → Initialise t now T c p r
  back_1 v c p r (asks_1 w h) = h
  back_1 v c p r (asks_2 w h) = other v w (λ e. no_clash (cc))
  back_1 v c p r (asks_3 w h) = other v w (λ e. no_clash (cc))
  back_1 v c p r (asks_4 w h) = other v w (λ e. no_clash (cc))

  back_2 : {now T : ℕ} → Review t now T §8·5·1-2 → (c : Component) (p : Property) (r : RowValue) → Asks t now T c p r → Start t now T c p r
  back_2 v c p r (asks_1 w h) = other v w (λ e. no_clash (cc))
  back_2 v c p r (asks_2 w h) = h
  back_2 v c p r (asks_3 w h) = other v w (λ e. no_clash (cc))
  back_2 v c p r (asks_4 w h) = other v w (λ e. no_clash (cc))

  back_3 : {now T : ℕ} → Review t now T §8·5·1-3 → (c : Component) (p : Property) (r : RowValue) → Asks t now T c p r → Discard t now T c p r
  back_3 v c p r (asks_1 w h) = other v w (λ e. no_clash (cc))
  back_3 v c p r (asks_2 w h) = other v w (λ e. no_clash (cc))
  back_3 v c p r (asks_3 w h) = h
  back_3 v c p r (asks_4 w h) = other v w (λ e. no_clash (cc))

  back_4 : {now T : ℕ} → Review t now T §8·5·1-4 → (c : Component) (p : Property) (r : RowValue) → Asks t now T c p r → Complete t now T c p r
  back_4 v c p r (asks_1 w h) = other v w (λ e. no_clash (cc))
  back_4 v c p r (asks_2 w h) = other v w (λ e. no_clash (cc))
  back_4 v c p r (asks_3 w h) = other v w (λ e. no_clash (cc))
  back_4 v c p r (asks_4 w h) = h

  back_5 : {now T : ℕ} → Review t now T §8·5·1-5 → (c : Component) (p : Property) (r : RowValue) → ¬ Asks t now T c p r
  back_5 v c p r (asks_1 w h) = other v w (λ e. no_clash (cc))
  back_5 v c p r (asks_2 w h) = other v w (λ e. no_clash (cc))
  back_5 v c p r (asks_3 w h) = other v w (λ e. no_clash (cc))
  back_5 v c p r (asks_4 w h) = other v w (λ e. no_clash (cc))

  asks_listed : {now T : ℕ} (d : Clause) → Review t now T d → Listed (Asks t now T) (rows_by g t now T d)
  asks_listed {now} {T} §8·5·1-1 v = listed_as (λ c p r h. asks_1 v h) (back_1 v) (initialise_listed t now T)
  asks_listed {now} {T} §8·5·1-2 v = listed_as (λ c p r h. asks_2 v h) (back_2 v) (start_listed t now T)
  asks_listed {now} {T} §8·5·1-3 v = listed_as (λ c p r h. asks_3 v h) (back_3 v) (discard_listed t now T)
  asks_listed {now} {T} §8·5·1-4 v = listed_as (λ c p r h. asks_4 v h) (back_4 v) (complete_listed now T)
  asks_listed §8·5·1-5 v = listed_none (back_5 v)

  pub changes_listed : (now : ℕ) → Listed (Changes t now) (changes_f g t now)
  unfolding changes_f
  changes_listed now =
      listed_as to back (listed_each (λ T (k : Task). Asks t now T) (λ T (k : Task). rows_by g t now T (review_f g t now T)) (tasks g)
      (λ T k h. asks_listed (review_f g t now T) (review_one lawful kept now (task_id kept (lawful.reached h))).fits))
    where
      to : (c : Component) (p : Property) (r : RowValue) → Each (λ T (k : Task). Asks t now T) (tasks g) c p r → Changes t now c p r
      to c p r (T, k, h, q) = asked_by (task_id kept (lawful.reached h)) q

      back : (c : Component) (p : Property) (r : RowValue) → Changes t now c p r → Each (λ T (k : Task). Asks t now T) (tasks g) c p r
      back c p r (asked_by {T} i q) = let k = instantiated kept i in (T, k.0, defined k.1, q)

-- ---- how many rows one task asks for

-- six rows of its own, and one for each assignment and each source
abbrev pub weight : Task → ℕ
weight k = 6 + (length (assignments_of k) + length (sources_of k))

each_length : {A B : Type 0} (f : A → List B) {l : List A} {i : ℕ} {a : A} → At l i a → length (f a) ≤ length (each f l)
each_length f (at_first {x} {l}) = omega (arith, length-append (f x) (each f l))
each_length f (at_later {y} {l} h) = omega (arith, length-append (f y) (each f l), each_length f h)

numbered_length : (n : ℕ) (l : List Source) → length (numbered n l) ≡ length l
numbered_length n [] = refl
numbered_length n (s ∷ l) = ap suc (numbered_length (suc n) l)

sources_most : {g : List TopLevel} {T : ℕ} {l : List Component} {k : Task} → At (tasks g) T k → Adds g (task № T) Table.sources (components_are l) → length l ≤ length (sources_of k)
sources_most {g} {T} {l} {k} q (source_5 {t} {s} {l = m} h e) =
    let a : t ≡ k = at_one (defined h) q in
    let b : length (sources_of k) ≡ length (s ∷ m) = ap (λ (x : Task). length (sources_of x)) (sym a) ∙ ap length e in
    omega (arith, numbered_length (Load.sources_before T (tasks g)) (s ∷ m), b)

assertion_most : {g : List TopLevel} {T : ℕ} {l : List Assigns} {k : Task} → At (tasks g) T k → Adds g (task № T) postcondition (assertion_is l) → length l ≤ length (assignments_of k)
assertion_most {g} {T} {l} {k} q (attribute_5_postcondition {l = m} (task_4 {t} h i)) =
    let a : t ≡ k = at_one (defined h) q in
    let b : length m ≤ length (assignments_of t) = each_length (λ (x : Placed Attribute). assigned_in x.what) i in
    let c : length m ≤ length (assignments_of k) = subst (λ (x : Task). length m ≤ length (assignments_of x)) a b in
    omega (arith, length-map m assigns, c)

ones : {A : Type 0} (l : List A) → total (λ a. 1) l ≡ length l
ones [] = refl
ones (a ∷ l) = let k = ones l in omega arith

source_rows_most : (t : Table.Table) (S : Component) → length (source_rows t S) ≤ 1
source_rows_most t S = what_most (item_f (t S data_item_of)) _ 1 (λ d e. if_most (not (says_f (t (data_item № d) requested) true)) (a_row (data_item № d) requested (truth_row true) ∷ []))

assignment_rows_most : (g : List TopLevel) (t : Table.Table) (T : ℕ) (a : Assigns) → length (assignment_rows g t T a) ≤ 1
assignment_rows_most g t T a = what_most (target_f g t a.target) _ 1 (λ d e. omega arith)

initialise_most : (t : Table.Table) (T : ℕ) → length (initialise_rows t T) ≤ 6
initialise_most t T = omega (arith, if_most (action_f t T) (a_row (task № T) actual_procedure unknown_row ∷ []))

own_start_most : (t : Table.Table) (now T : ℕ) → length (own_start_rows t now T) ≤ 6
own_start_most t now T =
    let x = what_f (integer_f (t (task № T) cycle_count)) (λ n. a_row (task № T) cycle_count (integer_row (n +ℤ pos 1)) ∷ []) in
    let y = only_if (action_f t T && absent_f (expression_f (t (task № T) procedure))) (a_row (task № T) actual_procedure unknown_row ∷ []) in
    omega (
      arith,
      what_most (integer_f (t (task № T) cycle_count)) (λ n. a_row (task № T) cycle_count (integer_row (n +ℤ pos 1)) ∷ []) 1 (λ n e. omega arith),
      if_most (action_f t T && absent_f (expression_f (t (task № T) procedure))) (a_row (task № T) actual_procedure unknown_row ∷ []),
      length-append x ((a_row (task № T) confirmed (truth_row false) ∷ []) ++ y),
    )

module _ {g : List TopLevel} {t : Table.Table} (lawful : Lawful g) (kept : Kept g t) where
  source_start_most : {T : ℕ} {k : Task} → At (tasks g) T k → length (source_start_rows t T) ≤ length (sources_of k)
  source_start_most {T} {k} q =
      let m = what_most (components_f (t (task № T) Table.sources)) (each_f (λ i S. source_rows t S)) (length (sources_of k))
      (λ l e. let a = each_most (λ i S. source_rows t S) (λ S. 1) l (λ i S h. source_rows_most t S) in
      let b = sources_most q (adds kept fixed_sources (sees_components.has (t (task № T) Table.sources) l e)) in
      omega (arith, ones l)) in
      omega (arith, if_most (there_f (class_f (t (task № T) class)) (λ x. same_class x an_enquiry)) (what_f (components_f (t (task № T) Table.sources)) (each_f (λ i S. source_rows t S))))

  complete_most : (now : ℕ) {T : ℕ} {k : Task} → At (tasks g) T k → length (complete_rows g t now T) ≤ 6 + length (assignments_of k)
  complete_most now {T} {k} q =
      let m = what_most (assertion_f (t (task № T) postcondition)) (each_f (λ i a. assignment_rows g t T a)) (length (assignments_of k))
      (λ l e. let a = each_most (λ i a. assignment_rows g t T a) (λ x. 1) l (λ i x h. assignment_rows_most g t T x) in
      let b = assertion_most q (adds kept fixed_postcondition (sees_assertion.has (t (task № T) postcondition) l e)) in
      omega (arith, ones l)) in
      let x = only_if (cycle_f g t T) (only_if (interval_f t T) (a_row (task № T) start_at (time_is now) ∷ [])) in
      let y = only_if (not (cycle_f g t T)) (a_row (task № T) start_at unknown_row ∷ []) in
      let z = what_f (assertion_f (t (task № T) postcondition)) (each_f (λ i a. assignment_rows g t T a)) in
      omega (
        arith,
        length-append x (y ++ z),
        length-append y z,
        if_most (cycle_f g t T) (only_if (interval_f t T) (a_row (task № T) start_at (time_is now) ∷ [])),
        if_most (interval_f t T) (a_row (task № T) start_at (time_is now) ∷ []),
        if_most (not (cycle_f g t T)) (a_row (task № T) start_at unknown_row ∷ []),
      )

  rows_most : (now : ℕ) {T : ℕ} {k : Task} → At (tasks g) T k → (d : Clause) → length (rows_by g t now T d) ≤ weight k
  rows_most now {T} q §8·5·1-1 = omega (arith, initialise_most t T)
  rows_most now {T} q §8·5·1-2 = omega (arith, own_start_most t now T, source_start_most q, length-append (own_start_rows t now T) (source_start_rows t T))
  rows_most now q §8·5·1-3 = omega arith
  rows_most now q §8·5·1-4 = omega (arith, complete_most now q)
  rows_most now q §8·5·1-5 = omega arith

  changes_most : (now : ℕ) → length (changes_f g t now) ≤ total weight (tasks g)
  unfolding changes_f
  changes_most now = each_most (λ T (k : Task). rows_by g t now T (review_f g t now T)) weight (tasks g) (λ T k h. rows_most now h (review_f g t now T))

  -- 01: "The team shows that no cycle needs more"
  pub few_rows : (now : ℕ) → length (tasks g) ≤ task_limit → length (assignments g) ≤ assignment_limit → length (sources g) ≤ source_limit
      → length (changes_f g t now) ≤ 6 * task_limit + (assignment_limit + source_limit)
  few_rows now a b c = omega (arith, changes_most now, weights (tasks g))
    where
      weights : (l : List Task) → total weight l ≡ 6 * length l + (length (each assignments_of l) + length (each sources_of l))
      weights [] = refl
      weights (k ∷ l) = omega (arith, weights l, length-append (assignments_of k) (each assignments_of l), length-append (sources_of k) (each sources_of l))
