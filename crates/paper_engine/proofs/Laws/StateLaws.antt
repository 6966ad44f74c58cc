-- Laws: of a plan that is dormant every component is dormant, in every table that a run comes to; the Exception flag is set by value rows alone;
-- and the order of review does not matter.
use Rattle.std.specs.Prelude.{ℕ, suc, ◌+◌, ◌≤◌, ◌<◌, ◌≡◌, refl, Bool, true, false, ◌⊎◌, ◌↔◌, List, length}
use Rattle.std.proofs.Common.{arith, sym, ap, subst, ◌∙◌, inl, inr}
use Rattle.std.proofs.Math.Option.{Option, some}
use Rattle.paper_expressions.proofs.Laws.Search.{no_clash}
use Rattle.paper_expressions.specs.Values.{TaskState, dormant, in_progress, discarded, completed}
use Rattle.paper_guideline.specs.Structure.{TopLevel, tasks}
use Rattle.paper_rows.specs.Table.{Assigns, task, Component, ◌№◌, Property, state, parent_plan, RowValue, state_is, component_is, Table, Contains, TaskId}
use Rattle.paper_rows.specs.Load.{Initial, task_3}
use Rattle.paper_engine.specs.Conditions
use Conditions.{InitialiseConditions, initialise_2b, StartConditions, ParentAllows, no_parent_plan, parent_in_progress, DiscardConditions, discard_1i, discard_1ii, discard_2}
use Rattle.paper_engine.specs.Operations
use Operations.{Review, review_1, review_2, review_3, review_4, Initialise, initialise_1, Start, start_1, start_9, Discard, discard_1, Complete, complete_1, complete_3, complete_4, Asks, asks_1, asks_2, asks_3, asks_4, Changes, asked_by, §8·5·1-1, §8·5·1-2, §8·5·1-3, §8·5·1-4}
use Rattle.paper_engine.specs.Cycle
use Cycle.{Rows, OnlyRow, Collision, Enacted, not_named, enact_c, enact_d, Cause, collides, Flagged, raised, as_it_was, EnactChanges, Report, State, Runs, stop_quiet, stop_bounded, stop_exception, repeat}
use Rattle.paper_engine.proofs.Laws.CollisionLaws.{Place, own, place, Valued, not_valued, changes_same, no_state_collision}
use Rattle.paper_rows.proofs.Laws.Lawful.{Lawful}
use Rattle.paper_engine.proofs.Laws.Kept.{Kept, adds, has, instantiated, fixed_parent}
use Rattle.paper_engine.proofs.Laws.KeptLaws.{cycle_kept, asks_state}
use Rattle.paper_engine.proofs.Laws.Chains.{child_id}

-- ---- an asked row becomes a row; a row that none asks for stays

module _ {t t' : Table} {now : ℕ} {f f' : Bool} (h : EnactChanges (Changes t now) t f t' f') where
  pub row_becomes : {T : ℕ} {p : Property} {r : RowValue} → Changes t now (task № T) p r → Contains t' (task № T) p r
  row_becomes {T} {p} {r} k = go (h.rows (task № T) p)
    where
      go : {o : Option RowValue} → Enacted (Changes t now) (task № T) p (t (task № T) p) o → o ≡ some r
      go (not_named n) = absurd (n r k)
      go (enact_c q) = ap some (sym (q.only r k))
      go (enact_d q) = absurd (only_values (changes_same q.other_row q.row))
        where
          only_values : (q.other ≡ q.one) ⊎ Valued (task № T) p → ⊥
          only_values (inl e) = q.differ e
          only_values (inr v) = not_valued v

  pub row_stays : {c : Component} {p : Property} → ((r : RowValue) → ¬ Changes t now c p r) → t' c p ≡ t c p
  row_stays {c} {p} n = go (h.rows c p)
    where
      go : {o : Option RowValue} → Enacted (Changes t now) c p (t c p) o → o ≡ t c p
      go (not_named m) = refl
      go (enact_c {r} q) = absurd (n r q.row)
      go (enact_d q) = absurd (n q.one q.row)

-- ---- a state row of a task is asked for by the task itself

own_task : {U T : ℕ} {p : Property} {r : RowValue} → Place U (task № T) p r → U ≡ T
own_task own = refl

pub asked_own : {t : Table} {now T : ℕ} {p : Property} {r : RowValue} → Changes t now (task № T) p r → Asks t now T (task № T) p r
asked_own {t} {now} {T} {p} {r} (asked_by {T = U} i h) = subst (λ (x : ℕ). Asks t now x (task № T) p r) (own_task (place h)) h

clash : {a b : TaskState} {o : Option RowValue} → ¬ (a ≡ b) → o ≡ some (state_is a) → o ≡ some (state_is b) → ⊥
clash n h k = n (cc)

-- dormant is asked for by Initialise alone

start_not_dormant : {t : Table} {now U T : ℕ} → ¬ Start t now U (task № T) state (state_is dormant)
start_not_dormant (start_9 a b i h) = elim h [ ]

complete_not_dormant : {t : Table} {now U T : ℕ} → ¬ Complete t now U (task № T) state (state_is dormant)
complete_not_dormant (complete_3 a h) = no_assertion h
  where
    no_assertion : {t : Table} {T U : ℕ} {l : List Assigns} {r : RowValue} → ¬ Operations.EnactAssertion t U l (task № T) state r
    no_assertion (Operations.assertion_2 i h) = elim h [ ]
complete_not_dormant (complete_4 a h) = elim h [ ]

discard_not_dormant : {t : Table} {now U T : ℕ} → ¬ Discard t now U (task № T) state (state_is dormant)
discard_not_dormant h = elim h [ ]

pub initialised : {t : Table} {now T : ℕ} → Asks t now T (task № T) state (state_is dormant) → InitialiseConditions t now T
initialised (asks_1 (review_1 v) h) = v
initialised (asks_2 v h) = absurd (start_not_dormant h)
initialised (asks_3 v h) = absurd (discard_not_dormant h)
initialised (asks_4 v h) = absurd (complete_not_dormant h)

pub asked_id : {t : Table} {now T : ℕ} {p : Property} {r : RowValue} → Changes t now (task № T) p r → TaskId t T
asked_id {t} (asked_by i h) = subst (TaskId t) (own_task (place h)) i

-- ---- "dormant, so all descendants dormant"

pub record DormantBelow (t : Table) : Type 0 where
  pub below : {C P : ℕ} → Contains t (task № C) parent_plan (component_is (task № P)) → Contains t (task № P) state (state_is dormant) → Contains t (task № C) state (state_is dormant)

module _ {g : List TopLevel} {t t' : Table} {now : ℕ} {f f' : Bool} (lawful : Lawful g) (kept : Kept g t) (dormant-below : DormantBelow t) (enacts : EnactChanges (Changes t now) t f t' f') where
  -- the parent plan is dormant, and so is the component: it asks for no other state
  module _ {C P : ℕ} (parent : Contains t (task № C) parent_plan (component_is (task № P))) (plan-dormant : Contains t (task № P) state (state_is dormant)) where
    self : Contains t (task № C) state (state_is dormant)
    self = dormant-below.below parent plan-dormant

    not_running : {Q : ℕ} → Contains t (task № C) parent_plan (component_is (task № Q)) → ¬ Contains t (task № Q) state (state_is in_progress)
    not_running {Q} h k = clash (λ e. no_clash (cc)) plan-dormant (subst (λ (x : ℕ). Contains t (task № x) state (state_is in_progress)) (same h parent) k)
      where
        same : {a b : ℕ} {o : Option RowValue} → o ≡ some (component_is (task № a)) → o ≡ some (component_is (task № b)) → a ≡ b
        same h k = cc

    no_start : ¬ StartConditions t now C
    no_start s = not_running parent (s.clause_1 parent)

    no_discard : ¬ DiscardConditions t C
    no_discard (discard_1i h i a q) = not_running h i
    no_discard (discard_1ii h i a q) = not_running h i
    no_discard (discard_2 (no_parent_plan n) b c d) = n P parent
    no_discard (discard_2 (parent_in_progress h k) b c d) = not_running h k

    initialise_dormant : {U T : ℕ} {r : RowValue} → Initialise t now U (task № T) state r → r ≡ state_is dormant
    initialise_dormant initialise_1 = refl

    started : ¬ Review t now C §8·5·1-2
    started (review_2 n s) = no_start s

    discards : ¬ Review t now C §8·5·1-3
    discards (review_3 n m d) = no_discard d

    completes : ¬ Review t now C §8·5·1-4
    completes (review_4 n m o c) = clash (λ e. no_clash (cc)) self c.clause_1

    asks_dormant : {r : RowValue} → Asks t now C (task № C) state r → r ≡ state_is dormant
    asks_dormant (asks_1 v h) = initialise_dormant h
    asks_dormant (asks_2 v h) = absurd (started v)
    asks_dormant (asks_3 v h) = absurd (discards v)
    asks_dormant (asks_4 v h) = absurd (completes v)

    stays_dormant : {o : Option RowValue} → Enacted (Changes t now) (task № C) state (t (task № C) state) o → o ≡ some (state_is dormant)
    stays_dormant (not_named n) = self
    stays_dormant (enact_c h) = ap some (asks_dormant (asked_own h.row))
    stays_dormant (enact_d h) = absurd (h.differ (no_state_collision h.other_row h.row))

  -- the parent plan is initialised, and so is the component
  becomes_dormant : {C P : ℕ} {o : Option RowValue} → Contains t (task № C) parent_plan (component_is (task № P)) → InitialiseConditions t now P
      → Enacted (Changes t now) (task № C) state (t (task № C) state) o → o ≡ some (state_is dormant)
  becomes_dormant {C} parent i e = go e
    where
      row : Changes t now (task № C) state (state_is dormant)
      row = asked_by (child_id lawful kept parent) (asks_1 (review_1 (initialise_2b parent i)) initialise_1)

      go : {o : Option RowValue} → Enacted (Changes t now) (task № C) state (t (task № C) state) o → o ≡ some (state_is dormant)
      go (not_named n) = absurd (n (state_is dormant) row)
      go (enact_c h) = ap some (sym (h.only (state_is dormant) row))
      go (enact_d h) = absurd (h.differ (no_state_collision h.other_row h.row))

  pub cycle_dormant : DormantBelow t'
  cycle_dormant = record { below = λ {C} {P} h k. go h (enacts.rows (task № P) state) k }
    where
      next : Kept g t'
      next = cycle_kept lawful kept enacts

      go : {C P : ℕ} {o : Option RowValue} → Contains t' (task № C) parent_plan (component_is (task № P)) → Enacted (Changes t now) (task № P) state (t (task № P) state) o → o ≡ some (state_is dormant)
          → Contains t' (task № C) state (state_is dormant)
      go {C} {P} h (not_named n) e = stays_dormant (has kept fixed_parent (adds next fixed_parent h)) e (enacts.rows (task № C) state)
      go {C} {P} h (enact_c {r} q) e =
          let d : Asks t now P (task № P) state (state_is dormant) = asked_own (subst (λ (x : RowValue). Changes t now (task № P) state x) (same_row e) q.row) in
          becomes_dormant (has kept fixed_parent (adds next fixed_parent h)) (initialised d) (enacts.rows (task № C) state)
        where
          same_row : {a b : RowValue} → some a ≡ some b → a ≡ b
          same_row e = cc
      go h (enact_d q) e = absurd (q.differ (no_state_collision q.other_row q.row))

pub initial_dormant : {g : List TopLevel} {t : Table} → Lawful g → Initial g t → Kept g t → DormantBelow t
initial_dormant {t} lawful i kept = record { below = λ {C} {P} h k. dormant_row (child_id lawful kept h) }
  where
    dormant_row : {C : ℕ} → TaskId t C → Contains t (task № C) state (state_is dormant)
    dormant_row {C} h = (i.rows (task № C) state (state_is dormant)).1 (task_3 (instantiated kept h).1)

pub run_dormant : {g : List TopLevel} {now n k : ℕ} {s s' : State} {r : Report} → Lawful g → Kept g s.table → DormantBelow s.table → Runs now n k s s' r → DormantBelow s'.table
run_dormant lawful kept d (stop_quiet h) = d
run_dormant lawful kept d (stop_bounded h p) = d
run_dormant lawful kept d (stop_exception h p y) = cycle_dormant lawful kept d y
run_dormant lawful kept d (repeat h p y r) = run_dormant lawful (cycle_kept lawful kept y) (cycle_dormant lawful kept d y) r

-- ---- the flag is set by value rows alone

pub exception_by_values : {t : Table} {now : ℕ} {f' : Bool} → Flagged (Changes t now) false f' → f' ≡ true → (c : Component) × (p : Property) × Valued c p × Collision (Changes t now) c p
exception_by_values {t} {now} (raised (collides {c} {p} k)) e = (c, p, go (changes_same k.other_row k.row), k)
  where
    go : (k.other ≡ k.one) ⊎ Valued c p → Valued c p
    go (inl q) = absurd (k.differ q)
    go (inr v) = v
exception_by_values (as_it_was n) e = absurd (no_clash (cc))

-- ---- the order of review: enacting depends on which rows are asked for, and on nothing else

collision_same : {N M : Rows} {c : Component} {p : Property} → ((r : RowValue) → N c p r → M c p r) → Collision N c p → Collision M c p
collision_same f k = record { one = k.one; other = k.other; row = f k.one k.row; other_row = f k.other k.other_row; differ = k.differ }

enacted_same : {N M : Rows} {c : Component} {p : Property} {o o' : Option RowValue} → ((r : RowValue) → N c p r ↔ M c p r) → Enacted N c p o o' → Enacted M c p o o'
enacted_same f (not_named n) = not_named (λ r h. n r ((f r).1 h))
enacted_same f (enact_c {r} h) = enact_c (record { row = (f r).0 h.row; only = λ q k. h.only q ((f q).1 k) })
enacted_same f (enact_d h) = enact_d (collision_same (λ r. (f r).0) h)

cause_same : {N M : Rows} → ((c : Component) (p : Property) (r : RowValue) → N c p r → M c p r) → Cause N → Cause M
cause_same f (collides {c} {p} k) = collides (collision_same (f c p) k)

flagged_same : {N M : Rows} {f f' : Bool} → ((c : Component) (p : Property) (r : RowValue) → N c p r ↔ M c p r) → Flagged N f f' → Flagged M f f'
flagged_same e (raised k) = raised (cause_same (λ c p r. (e c p r).0) k)
flagged_same e (as_it_was n) = as_it_was (λ k. n (cause_same (λ c p r. (e c p r).1) k))

pub same_rows_same_enactment : {N M : Rows} {t t' : Table} {f f' : Bool} → ((c : Component) (p : Property) (r : RowValue) → N c p r ↔ M c p r) → EnactChanges N t f t' f' → EnactChanges M t f t' f'
same_rows_same_enactment e h = record { rows = λ c p. enacted_same (e c p) (h.rows c p); flag = flagged_same e h.flag }
