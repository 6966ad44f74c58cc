-- Worked calls: a trigger and its new start, a mandatory source and its value, a confirmed action. The rows that a call sets are a computed list, tied to the call; runs are computed.
use Rattle.std.specs.Prelude.{ℕ, zero, suc, ◌≤◌, ◌<◌, ◌≡◌, refl, Bool, true, false, not, ◌&&◌, ◌⊎◌, List, [], ◌∷◌, ◌++◌, pos, length}
use Rattle.std.proofs.Common.{arith, sym, ap, subst, ◌∙◌, inl, inr}
use Rattle.std.proofs.Math.Option.{Option, none, some}
use Rattle.paper_expressions.specs.Bytes.{bytes}
use Rattle.paper_expressions.proofs.Laws.Search.{no_clash, sameb}
use Rattle.paper_expressions.specs.Values.{Value, one, integer, in_progress}
use Rattle.paper_expressions.specs.Types.{Of, Real, of_scalar, integer_counts_as_real, a_real}
use Rattle.paper_expressions.specs.View.{At, at_first, at_later}
use Rattle.paper_guideline.specs.Structure.{Task, TopLevel, tasks}
use Rattle.paper_rows.specs.Table
use Table.{task, data_item, Component, ◌№◌, a_data_item, a_plan, plan_is_task, action_is_task, an_action, Property, properties, kinds, class, state, trigger, trigger_active, parent_plan, confirmed, type, value, requested, RowValue, value_is, state_is, class_is, type_is, component_is, truth_row, text_row, Table, Contains, TaskId, DataItemId}
use Rattle.paper_rows.specs.Load.{Adds, Initial, attribute_5_trigger, task_4, data_item_3, data_item_4b}
use Rattle.paper_engine.specs.Cycle.{quiet, bounded, Report, ends}
use Rattle.paper_engine.specs.Cycle as Cycle
use Rattle.paper_rows.proofs.Laws.Booleans.{Tests, is_as, is_and, is_same}
use Rattle.paper_rows.proofs.Laws.Seen.{there_f, text_f, task_f, is_there, is_held, sees_text, sees_task}
use Rattle.paper_rows.proofs.Laws.RowLists.{Row, a_row, Listed, Only, it, listed_only, listed_as, listed_or, ◌or◌, only_if, listed_if, Each, each_f, listed_each, look_f}
use Rattle.paper_rows.proofs.Laws.Lawful.{Lawful, defined}
use Rattle.paper_rows.proofs.Laws.InitialLaws.{load_f, initial}
use Rattle.paper_engine.proofs.Laws.Kept.{Kept, adds, has, initial_kept, fixed_class, fixed_type}
use Rattle.paper_engine.proofs.Laws.Twins.{in_f, evaluate_f, schedule_f, scheduled_f, start_f, initialise_up_f, termination_f, discard_2_f, discard_up_f, settled_f, complete_f, cycle_f, review_f}
use Rattle.paper_engine.proofs.Laws.ReviewLaws.{is-in}
use Rattle.paper_engine.proofs.Laws.RowsLaws.{changes_f, target_f}
use Rattle.paper_engine.proofs.Laws.EnactLaws
use EnactLaws.{differ_f, same_differ, enact_f, collision_f, enact, run_f}
use Rattle.paper_engine.proofs.Laws.Worked.{states_f, triggered, mandatory_source, terminal_part, worked_triggered, worked_source, worked_terminal}
use Rattle.paper_calls.specs.Calls
use Calls.{Guideline, State, loaded, Reply, done, ran, refuses, cycle_limit, changes_least, SmallText, Small, small_one, small_integer, Sets, Replaced, replaced, kept, Replaces, ConfirmTask, confirm_2, AddDataValue, add_2a, add_2b, SendTrigger, trigger_1}
use Calls.{Call, run, confirm_task, add_data_value, send_trigger, Unready, flag_set, Calls, run_done, confirm_done, add_done, trigger_done}
use Rattle.paper_engine.proofs.Laws.KeptLaws.{run_kept}
use Rattle.paper_rows.proofs.Laws.LoadLaws.{lawful_if}
use Rattle.paper_calls.proofs.Laws.CallLaws.{Mild, sets_kept, confirm_mild, add_mild, trigger_mild}

-- ---- rows that a call sets, as a list

module _ (N : Sets) {l : List Row} (listed : Listed (λ c p r. N c p (some r)) l) (never_none : (c : Component) (p : Property) → ¬ N c p none) (once : (c : Component) (p : Property) (r q : RowValue) → N c p (some r) → N c p (some q) → q ≡ r) where
  agree : (c : Component) (p : Property) (r q : RowValue) → N c p (some r) → N c p (some q) → Tests (not (differ_f r q)) (q ≡ r)
  agree c p r q h k = (λ e. once c p r q h k, λ e. off (subst (λ (x : RowValue). differ_f r x ≡ false) (sym e) (same_differ r)))
    where
      off : {b : Bool} → b ≡ false → not b ≡ true
      off e = cc

  pub sets : (t : Table) → Replaces N t (enact_f l t)
  sets t c p = go ((enact listed agree t false).rows c p)
    where
      go : {o : Option RowValue} → Cycle.Enacted (λ c p r. N c p (some r)) c p (t c p) o → Replaced N c p (t c p) o
      go (Cycle.not_named n) = kept none_set
        where
          none_set : (o : Option RowValue) → ¬ N c p o
          none_set none h = never_none c p h
          none_set (some r) h = n r h
      go (Cycle.enact_c h) = replaced h.row
      go (Cycle.enact_d h) = absurd (h.differ (once c p h.one h.other h.row h.other_row))

-- ---- confirm, add

abbrev pub confirm_rows : ℕ → List Row
confirm_rows T = a_row (task № T) confirmed (truth_row true) ∷ []

confirm_listed : (T : ℕ) → Listed (λ c p r. ConfirmTask T c p (some r)) (confirm_rows T)
confirm_listed T = listed_as to back (listed_only _ _ _)
  where
    to : (c : Component) (p : Property) (r : RowValue) → Only (task № T) confirmed (truth_row true) c p r → ConfirmTask T c p (some r)
    to c p r it = confirm_2

    back : (c : Component) (p : Property) (r : RowValue) → ConfirmTask T c p (some r) → Only (task № T) confirmed (truth_row true) c p r
    back c p r confirm_2 = it

pub confirms : (T : ℕ) (t : Table) → Replaces (ConfirmTask T) t (enact_f (confirm_rows T) t)
confirms T t = sets (ConfirmTask T) (confirm_listed T) never_none once t
  where
    never_none : (c : Component) (p : Property) → ¬ ConfirmTask T c p none
    never_none c p h = elim h [ ]

    once : {U : ℕ} (c : Component) (p : Property) (r q : RowValue) → ConfirmTask T c p (some r) → ConfirmTask U c p (some q) → q ≡ r
    once c p r q confirm_2 confirm_2 = refl

abbrev pub add_rows : ℕ → Value → List Row
add_rows d w = (a_row (data_item № d) value (value_is w) ∷ []) ++ (a_row (data_item № d) requested (truth_row false) ∷ [])

add_listed : (d : ℕ) (w : Value) → Listed (λ c p r. AddDataValue d w c p (some r)) (add_rows d w)
add_listed d w = listed_as to back (listed_or (listed_only _ _ _) (listed_only _ _ _))
  where
    to : (c : Component) (p : Property) (r : RowValue) → Only (data_item № d) value (value_is w) c p r ⊎ Only (data_item № d) requested (truth_row false) c p r → AddDataValue d w c p (some r)
    to c p r (inl it) = add_2a
    to c p r (inr it) = add_2b

    back : (c : Component) (p : Property) (r : RowValue) → AddDataValue d w c p (some r) → Only (data_item № d) value (value_is w) c p r ⊎ Only (data_item № d) requested (truth_row false) c p r
    back c p r add_2a = inl it
    back c p r add_2b = inr it

pub adds_value : (d : ℕ) (w : Value) (t : Table) → Replaces (AddDataValue d w) t (enact_f (add_rows d w) t)
adds_value d w t = sets (AddDataValue d w) (add_listed d w) never_none once t
  where
    never_none : (c : Component) (p : Property) → ¬ AddDataValue d w c p none
    never_none c p h = elim h [ ]

    once : {e : ℕ} (c : Component) (p : Property) (r q : RowValue) → AddDataValue d w c p (some r) → AddDataValue e w c p (some q) → q ≡ r
    once c p r q add_2a add_2a = refl
    once c p r q add_2b add_2b = refl

-- ---- a trigger

abbrev has_f : Table → List ℕ → ℕ → Bool
has_f t trig T = there_f (text_f (t (task № T) trigger)) (λ s. sameb s trig) && there_f (task_f (t (task № T) parent_plan)) (λ P. in_f t P in_progress)

abbrev trigger_rows : List TopLevel → Table → List ℕ → List Row
trigger_rows g t trig = each_f (λ T (k : Task). only_if (has_f t trig T) (a_row (task № T) trigger_active (truth_row true) ∷ [])) (tasks g)

module _ {g : List TopLevel} {t : Table} (held : Kept g t) (trig : List ℕ) where
  abbrev Has : ℕ → Type 0
  Has T = Contains t (task № T) trigger (text_row trig) × ((P : ℕ) × Contains t (task № T) parent_plan (component_is (task № P)) × Contains t (task № P) state (state_is in_progress))

  is_has : (T : ℕ) → Tests (has_f t trig T) (Has T)
  is_has T = is_and (is_held sees_text is_same (t (task № T) trigger) trig) (is_there sees_task (t (task № T) parent_plan) (λ P e. is-in t P in_progress))

  abbrev OfTask : ℕ → Task → Component → Property → RowValue → Type 0
  OfTask T k = λ c p r. Has T × Only (task № T) trigger_active (truth_row true) c p r

  trigger_listed : Listed (λ c p r. SendTrigger t trig c p (some r)) (trigger_rows g t trig)
  trigger_listed = listed_as to back (listed_each OfTask (λ T (k : Task). only_if (has_f t trig T) (a_row (task № T) trigger_active (truth_row true) ∷ [])) (tasks g) (λ T k h. listed_if (is_has T) (listed_only _ _ _)))
    where
      to : (c : Component) (p : Property) (r : RowValue) → Each OfTask (tasks g) c p r → SendTrigger t trig c p (some r)
      to c p r (T, k, q, (h, it)) = trigger_1 h.0 h.1.1 h.1.2

      its : {T : ℕ} {r : RowValue} → Adds g (task № T) trigger r → (k : Task) × At (tasks g) T k
      its (attribute_5_trigger (task_4 {t = k} h q)) = (k, defined h)

      back : (c : Component) (p : Property) (r : RowValue) → SendTrigger t trig c p (some r) → Each OfTask (tasks g) c p r
      back c p r (trigger_1 {T} {P} a b d) = let k = its (adds held (λ x. elim x [ ]) a) in (T, k.0, k.1, ((a, (P, b, d)), it))

  pub triggers : Replaces (SendTrigger t trig) t (enact_f (trigger_rows g t trig) t)
  triggers = sets (SendTrigger t trig) trigger_listed never_none once t
    where
      never_none : (c : Component) (p : Property) → ¬ SendTrigger t trig c p none
      never_none c p h = elim h [ ]

      once : (c : Component) (p : Property) (r q : RowValue) → SendTrigger t trig c p (some r) → SendTrigger t trig c p (some q) → q ≡ r
      once c p r q (trigger_1 a b d) (trigger_1 x y z) = refl

-- ---- runs between calls

abbrev pub state_of : List TopLevel → Table → State
state_of g t = loaded (record { structure = g; table = t; flag = false; time = 7 })

pub ready : {g : List TopLevel} {t : Table} → ¬ Unready (state_of g t)
ready (flag_set e) = no_clash (cc)

-- a run of at most 256 cycles at the engine time 7, and the table that it leaves
abbrev pub end_f : List TopLevel → Table → Cycle.State × Report
end_f g t = run_f g 7 256 0 t false

abbrev pub after_f : List TopLevel → Table → Table
after_f g t = (end_f g t).0.table

pub runs : {g : List TopLevel} {t : Table} {r : Report} → Lawful g → Kept g t → (end_f g t).0.flag ≡ false → (end_f g t).1 ≡ r → Calls (run 256 1024) (state_of g t) (ran r) (state_of g (after_f g t))
runs {g} {t} {r} l k e f =
    subst (λ (x : Bool). Calls (run 256 1024) (state_of g t) (ran r) (loaded (record { structure = g; table = after_f g t; flag = x; time = 7 }))) e
    (subst (λ (x : Report). Calls (run 256 1024) (state_of g t) (ran x) (loaded (record { structure = g; table = after_f g t; flag = (end_f g t).0.flag; time = 7 }))) f
    (run_done ready (omega arith) (omega arith) (EnactLaws.run l 7 256 t false k)))

pub kept_after : {g : List TopLevel} {t : Table} → Lawful g → Kept g t → Kept g (after_f g t)
kept_after {g} {t} l k = run_kept l k (EnactLaws.run l 7 256 t false k)

-- ---- a trigger and its new start: the task starts, completes, and is initialised, for the start has not cleared trigger_active; then it can be triggered again

abbrev waiting : Table
waiting = after_f triggered (look_f (load_f triggered))

abbrev alarmed : Table
alarmed = enact_f (trigger_rows triggered waiting (bytes "alarm")) waiting

small_alarm : SmallText (bytes "alarm")
small_alarm = record { short = omega arith; ascii = λ {i} {b} h. ascii h }
  where
    ascii : {i b : ℕ} → At (bytes "alarm") i b → b ≤ 127
    ascii at_first = omega arith
    ascii (at_later at_first) = omega arith
    ascii (at_later (at_later at_first)) = omega arith
    ascii (at_later (at_later (at_later at_first))) = omega arith
    ascii (at_later (at_later (at_later (at_later at_first)))) = omega arith
    ascii (at_later (at_later (at_later (at_later (at_later h))))) = elim h [ ]

pub record Triggered : Type 0 where
  pub first : Calls (run 256 1024) (state_of triggered (look_f (load_f triggered))) (ran (ends quiet 1)) (state_of triggered waiting)
  pub sent : Calls (send_trigger (bytes "alarm")) (state_of triggered waiting) done (state_of triggered alarmed)
  pub active : alarmed (task № 1) trigger_active ≡ some (truth_row true)
  pub again : Calls (run 256 1024) (state_of triggered alarmed) (ran (ends quiet 3)) (state_of triggered (after_f triggered alarmed))
  pub states : states_f triggered (after_f triggered alarmed) ≡ 1 ∷ 0 ∷ []
  pub cleared : after_f triggered alarmed (task № 1) trigger_active ≡ some (truth_row false)

pub worked_trigger : Triggered
unfolding evaluate_f schedule_f scheduled_f start_f initialise_up_f termination_f discard_2_f discard_up_f settled_f complete_f cycle_f review_f changes_f target_f enact_f collision_f properties kinds
worked_trigger =
    let l = worked_triggered.lawful in
    let k = initial_kept (initial l) in
    let w = kept_after l k in
    let a = triggers w (bytes "alarm") in
    record { first = runs l k refl refl; sent = trigger_done ready small_alarm a; active = refl; again = runs l (sets_kept w (trigger_mild (bytes "alarm") w) a) refl refl; states = refl; cleared = refl }

-- ---- a mandatory source: with a value added, an integer for a real item, the enquiry completes, and then the plan

abbrev asking : Table
asking = after_f mandatory_source (look_f (load_f mandatory_source))

abbrev answered : Table
answered = enact_f (add_rows 0 (one (integer (pos 3)))) asking

small_three : Small (one (integer (pos 3)))
small_three = small_one (small_integer {n = pos 3} (omega arith))

source_lawful : Lawful mandatory_source
source_lawful = worked_source.0.lawful

asking_kept : Kept mandatory_source asking
asking_kept = kept_after source_lawful (initial_kept (initial source_lawful))

is_item : DataItemId asking 0
is_item = has asking_kept fixed_class (data_item_3 at_first)

is_real : Contains asking (data_item № 0) type (type_is a_real)
is_real = has asking_kept fixed_type (data_item_4b at_first)

a_number : Of (one (integer (pos 3))) Real
a_number = of_scalar integer_counts_as_real

answered_kept : Kept mandatory_source answered
answered_kept = sets_kept asking_kept (add_mild {k = a_real} asking_kept is_item is_real a_number small_three) (adds_value 0 (one (integer (pos 3))) asking)

pub record Reported : Type 0 where
  pub first_flag : (end_f mandatory_source (look_f (load_f mandatory_source))).0.flag ≡ false
  pub first : (end_f mandatory_source (look_f (load_f mandatory_source))).1 ≡ ends quiet 2
  pub again_flag : (end_f mandatory_source answered).0.flag ≡ false
  pub again : (end_f mandatory_source answered).1 ≡ ends quiet 2
  pub states : states_f mandatory_source (after_f mandatory_source answered) ≡ 3 ∷ 3 ∷ []
  pub held : after_f mandatory_source answered (data_item № 0) value ≡ some (value_is (one (integer (pos 3))))

pub reported : Reported
unfolding evaluate_f schedule_f scheduled_f start_f initialise_up_f termination_f discard_2_f discard_up_f settled_f complete_f cycle_f review_f changes_f target_f enact_f collision_f properties kinds
reported = record { first_flag = refl; first = refl; again_flag = refl; again = refl; states = refl; held = refl }

pub worked_first : Calls (run 256 1024) (state_of mandatory_source (look_f (load_f mandatory_source))) (ran (ends quiet 2)) (state_of mandatory_source asking)
worked_first = runs source_lawful (initial_kept (initial source_lawful)) reported.first_flag reported.first

pub worked_added : Calls (add_data_value 0 (some (one (integer (pos 3))))) (state_of mandatory_source asking) done (state_of mandatory_source answered)
worked_added = add_done {k = a_real} ready is_item is_real a_number small_three (adds_value 0 (one (integer (pos 3))) asking)

pub worked_again : Calls (run 256 1024) (state_of mandatory_source answered) (ran (ends quiet 2)) (state_of mandatory_source (after_f mandatory_source answered))
worked_again = runs source_lawful answered_kept reported.again_flag reported.again

-- ---- "Refusing to confirm a dormant task: it is accepted, and the start clears it.": so the action is not completed by it, and is discarded

abbrev confirmed_plan : Table
confirmed_plan = enact_f (confirm_rows 2) (look_f (load_f terminal_part))

pub worked_confirm : (after_f terminal_part confirmed_plan (task № 2) confirmed ≡ some (truth_row false)) × (states_f terminal_part (after_f terminal_part confirmed_plan) ≡ 3 ∷ 3 ∷ 2 ∷ [])
unfolding evaluate_f schedule_f scheduled_f start_f initialise_up_f termination_f discard_2_f discard_up_f settled_f complete_f cycle_f review_f changes_f target_f enact_f collision_f properties kinds
worked_confirm = (refl, refl)
