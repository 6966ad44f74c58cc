-- Law: every call has exactly one reply and state behind it, in every state that a series of calls reaches and for every argument, load included; and a run leaves the lent Changes table in one way.
use Rattle.std.specs.Prelude.{ℕ, zero, suc, ◌≤◌, ◌<◌, ◌≡◌, refl, Bool, true, false, ◌||◌, ◌⊎◌, List, [], ◌∷◌, ℤ, nat_abs, length}
use Rattle.std.proofs.Common.{arith, sym, ap, subst, ◌∙◌, inl, inr}
use Rattle.std.proofs.Math.Decide.{dec_le, dec_lt}
use Rattle.std.proofs.Math.Option.{Option, none, some}
use Rattle.paper_expressions.specs.Limits.{integer_limit, real_limit, text_limit, list_limit}
use Rattle.paper_expressions.proofs.Laws.Search.{no_clash, sameb, at_f, at_only, at_has, at_one}
use Rattle.paper_expressions.specs.Values.{Scalar, unknown, truth, integer, real, text, Value, one, sequence, in_progress}
use Rattle.paper_expressions.specs.Types.{Declared, inferred, Of}
use Rattle.paper_expressions.proofs.Laws.Soundness.{of?}
use Rattle.paper_expressions.specs.View.{At, at_first, at_later}
use Rattle.paper_guideline.specs.Structure.{TopLevel, DataItem, tasks, data_items}
use Rattle.paper_guideline.specs.Refusals.{Read, Answer, loads, refused, Answers, is_loaded, is_refused}
use Rattle.paper_guideline.proofs.Laws.AnswerLaws.{exactly_one_answer}
use Rattle.paper_rows.specs.Table
use Table.{Kind, kinds, task, data_item, Component, ◌№◌, Property, properties, class, state, trigger, parent_plan, type, trigger_active, confirmed, value, requested, TaskClass, generic_is_task, plan_is_task, enquiry_is_task, decision_is_task, action_is_task}
use Table.{Class, a_data_item, a_generic_task, a_plan, a_decision, an_enquiry, an_action, a_source, a_candidate, a_parameter, a_warning_flag}
use Table.{RowValue, value_is, state_is, class_is, type_is, time_is, expression_is, assertion_is, component_is, components_are, truth_row, text_row, Table, Contains, TaskId, DataItemId}
use Rattle.paper_rows.specs.Bare.{bare_guideline}
use Rattle.paper_rows.specs.Load.{Adds, data_item_3, data_item_4b}
use Rattle.paper_calls.specs.Calls
use Calls.{Guideline, State, empty, loaded, Shown, no_row, there, shows_value, shows_state, shows_class, shows_type, shows_time, shows_component, Reply, done, ran, row, refuses, cycle_limit, time_limit, changes_least, SmallText, SmallScalar, small_unknown, small_truth, small_integer, small_real, small_text, Small, small_one, small_list}
use Calls.{Sets, Replaced, replaced, kept, Replaces, ConfirmTask, confirm_2, AddDataValue, add_2a, add_2b, SendTrigger, trigger_1, ShownAs, shown_value, shown_state, shown_class, shown_type, shown_time, shown_component, there_expression, there_assertion, there_components, RowAt, Reads, a_row, without_row}
use Calls.{Call, load, run, set_engine_time, confirm_task, add_data_value, send_trigger, read_row, Unready, nothing_loaded, flag_set, Calls, Leaves, left_blank, left_as_it_was, CallsRun, Series}
use Calls.{load_done, load_refused, run_7, run_6_bound, run_6_lent, run_done, time_7, time_6, time_done, confirm_7, confirm_8, confirm_done, add_7, add_8, add_9, add_9_none, add_6, add_done, trigger_7, trigger_6, trigger_done, read_7, read_done}
use Rattle.paper_rows.proofs.Laws.Booleans.{decided, is_same}
use Rattle.paper_rows.proofs.Laws.Deciding.{both?, as?, every?}
use Rattle.paper_rows.proofs.Laws.Seen.{same_some, seen_one, see_cases, is_held, sees_class, sees_state, sees_text, sees_task}
use Rattle.paper_rows.proofs.Laws.Ranks.{is_same_class, is_same_state, is_same_component, is_same_property}
use Rattle.paper_rows.proofs.Laws.Lists.{no_element, dropped}
use Rattle.paper_rows.proofs.Laws.LoadLaws.{lawful}
use Rattle.paper_rows.proofs.Laws.BareLaws.{bare_lawful}
use Rattle.paper_rows.proofs.Laws.InitialLaws.{initial}
use Rattle.paper_rows.proofs.Laws.Lawful.{Lawful}
use Rattle.paper_engine.proofs.Laws.Kept.{Kept, adds, has, fixed_class, fixed_type}
use Rattle.paper_engine.proofs.Laws.EnactLaws as Enact
use Rattle.paper_calls.proofs.Laws.CallLaws.{Good, good_empty, good_loaded, SameCall, one_call, series_good}

-- ---- decisions

task-class? : (k : Class) → Dec (TaskClass k)
task-class? a_data_item = no (λ h. elim h [ ])
task-class? a_generic_task = yes generic_is_task
task-class? a_plan = yes plan_is_task
task-class? a_decision = yes decision_is_task
task-class? an_enquiry = yes enquiry_is_task
task-class? an_action = yes action_is_task
task-class? a_source = no (λ h. elim h [ ])
task-class? a_candidate = no (λ h. elim h [ ])
task-class? a_parameter = no (λ h. elim h [ ])
task-class? a_warning_flag = no (λ h. elim h [ ])

task-id? : (t : Table) (T : ℕ) → Dec (TaskId t T)
task-id? t T = go (see_cases sees_class (t (task № T) class))
  where
    go : ((k : Class) × Contains t (task № T) class (class_is k)) ⊎ ((k : Class) → ¬ Contains t (task № T) class (class_is k)) → Dec (TaskId t T)
    go (inl (k, e)) = as? (λ h. record { its = k; row = e; task_class = h }) (λ i. subst TaskClass (seen_one sees_class i.row e) i.task_class) (task-class? k)
    go (inr n) = no (λ i. n i.its i.row)

small-text? : (s : List ℕ) → Dec (SmallText s)
small-text? s =
    as? (λ h. record { short = h.0; ascii = λ {i} {b} q. h.1 i b q }) (λ r. (r.short, λ i b q. r.ascii q)) (both? (dec_le (length s) text_limit) (every? (λ b. b ≤ 127) (λ b. dec_le b 127) s))

small_integer_of : {n : ℤ} → SmallScalar (integer n) → nat_abs n ≤ integer_limit
small_integer_of (small_integer h) = h

small_real_of : {n : ℤ} → SmallScalar (real n) → nat_abs n ≤ real_limit
small_real_of (small_real h) = h

small_text_of : {s : List ℕ} → SmallScalar (text s) → SmallText s
small_text_of (small_text h) = h

small-scalar? : (s : Scalar) → Dec (SmallScalar s)
small-scalar? unknown = yes small_unknown
small-scalar? (truth b) = yes small_truth
small-scalar? (integer n) = as? small_integer small_integer_of (dec_le (nat_abs n) integer_limit)
small-scalar? (real n) = as? small_real small_real_of (dec_le (nat_abs n) real_limit)
small-scalar? (text s) = as? small_text small_text_of (small-text? s)

small? : (w : Value) → Dec (Small w)
small? (one s) = as? small_one back (small-scalar? s)
  where
    back : Small (one s) → SmallScalar s
    back (small_one h) = h
small? (sequence l) = as? (λ h. small_list h.0 h.1) back (both? (dec_le (length l) list_limit) (every? SmallScalar small-scalar? l))
  where
    back : Small (sequence l) → (length l ≤ list_limit) × ((i : ℕ) (s : Scalar) → At l i s → SmallScalar s)
    back (small_list h k) = (h, k)

unready? : (g : Guideline) → Dec (Unready (loaded g))
unready? g = as? flag_set back (flagged g.flag)
  where
    back : Unready (loaded g) → g.flag ≡ true
    back (flag_set e) = e

    flagged : (b : Bool) → Dec (b ≡ true)
    flagged true = yes refl
    flagged false = no (λ e. no_clash (cc))

-- ---- rows replaced

abbrev Named : Sets → Component → Property → Type 0
Named N c p = (o : Option RowValue) × N c p o

replace : {N : Sets} → ((c : Component) (p : Property) → Dec (Named N c p)) → (t : Table) → (t' : Table) × Replaces N t t'
replace {N} d t = (λ c p. after (d c p) (t c p), λ c p. is_after (d c p) (t c p))
  where
    after : {c : Component} {p : Property} → Dec (Named N c p) → Option RowValue → Option RowValue
    after (yes h) o = h.0
    after (no n) o = o

    is_after : {c : Component} {p : Property} (k : Dec (Named N c p)) (o : Option RowValue) → Replaced N c p o (after k o)
    is_after (yes h) o = replaced h.1
    is_after (no n) o = kept (λ r q. n (r, q))

-- the row of one property of one component
same-key? : (c d : Component) (p q : Property) → Dec ((c ≡ d) × (p ≡ q))
same-key? c d p q = both? (decided (is_same_component c d)) (decided (is_same_property p q))

confirm? : (T : ℕ) (c : Component) (p : Property) → Dec (Named (ConfirmTask T) c p)
confirm? T c p = as? (λ h. (some (truth_row true), moved h.0 h.1)) back (same-key? c (task № T) p confirmed)
  where
    moved : c ≡ task № T → p ≡ confirmed → ConfirmTask T c p (some (truth_row true))
    moved e f = subst (λ (x : Component). ConfirmTask T x p (some (truth_row true))) (sym e) (subst (λ (x : Property). ConfirmTask T (task № T) x (some (truth_row true))) (sym f) confirm_2)

    key : {c : Component} {p : Property} {r : Option RowValue} → ConfirmTask T c p r → (c ≡ task № T) × (p ≡ confirmed)
    key confirm_2 = (refl, refl)

    back : Named (ConfirmTask T) c p → (c ≡ task № T) × (p ≡ confirmed)
    back h = key h.1

add? : (d : ℕ) (w : Value) (c : Component) (p : Property) → Dec (Named (AddDataValue d w) c p)
add? d w c p = go (same-key? c (data_item № d) p value) (same-key? c (data_item № d) p requested)
  where
    moved_value : c ≡ data_item № d → p ≡ value → AddDataValue d w c p (some (value_is w))
    moved_value e f = subst (λ (x : Component). AddDataValue d w x p (some (value_is w))) (sym e) (subst (λ (x : Property). AddDataValue d w (data_item № d) x (some (value_is w))) (sym f) add_2a)

    moved_requested : c ≡ data_item № d → p ≡ requested → AddDataValue d w c p (some (truth_row false))
    moved_requested e f = subst (λ (x : Component). AddDataValue d w x p (some (truth_row false))) (sym e) (subst (λ (x : Property). AddDataValue d w (data_item № d) x (some (truth_row false))) (sym f) add_2b)

    neither : {c : Component} {p : Property} {r : Option RowValue} → ¬ ((c ≡ data_item № d) × (p ≡ value)) → ¬ ((c ≡ data_item № d) × (p ≡ requested)) → ¬ AddDataValue d w c p r
    neither n m add_2a = n (refl, refl)
    neither n m add_2b = m (refl, refl)

    go : Dec ((c ≡ data_item № d) × (p ≡ value)) → Dec ((c ≡ data_item № d) × (p ≡ requested)) → Dec (Named (AddDataValue d w) c p)
    go (yes h) b = yes (some (value_is w), moved_value h.0 h.1)
    go (no n) (yes h) = yes (some (truth_row false), moved_requested h.0 h.1)
    go (no n) (no m) = no (λ h. neither n m h.1)

-- the task has the trigger, and its parent plan is in progress
abbrev Triggers : Table → List ℕ → ℕ → Type 0
Triggers t trig T = Contains t (task № T) trigger (text_row trig) × ((P : ℕ) × Contains t (task № T) parent_plan (component_is (task № P)) × Contains t (task № P) state (state_is in_progress))

triggers? : (t : Table) (trig : List ℕ) (T : ℕ) → Dec (Triggers t trig T)
triggers? t trig T = both? (decided (is_held sees_text is_same (t (task № T) trigger) trig)) (by_parent (see_cases sees_task (t (task № T) parent_plan)))
  where
    by_parent : ((P : ℕ) × Contains t (task № T) parent_plan (component_is (task № P))) ⊎ ((P : ℕ) → ¬ Contains t (task № T) parent_plan (component_is (task № P)))
        → Dec ((P : ℕ) × Contains t (task № T) parent_plan (component_is (task № P)) × Contains t (task № P) state (state_is in_progress))
    by_parent (inl (P, e)) =
        as? (λ h. (P, e, h)) (λ h. subst (λ (x : ℕ). Contains t (task № x) state (state_is in_progress)) (seen_one sees_task h.1 e) h.2) (decided (is_held sees_state is_same_state (t (task № P) state) in_progress))
    by_parent (inr n) = no (λ h. n h.0 h.1)

send? : (t : Table) (trig : List ℕ) (c : Component) (p : Property) → Dec (Named (SendTrigger t trig) c p)
send? t trig c p = go c (decided (is_same_property p trigger_active))
  where
    moved : {T : ℕ} → Triggers t trig T → p ≡ trigger_active → SendTrigger t trig (task № T) p (some (truth_row true))
    moved {T} h e = subst (λ (x : Property). SendTrigger t trig (task № T) x (some (truth_row true))) (sym e) (trigger_1 h.0 h.1.1 h.1.2)

    key : {c : Component} {p : Property} {r : Option RowValue} → SendTrigger t trig c p r → p ≡ trigger_active
    key (trigger_1 a b d) = refl

    its : {T : ℕ} {p : Property} {r : Option RowValue} → SendTrigger t trig (task № T) p r → Triggers t trig T
    its (trigger_1 {P} a b d) = (a, (P, b, d))

    for_task : (T : ℕ) → Dec (p ≡ trigger_active) → Dec (Named (SendTrigger t trig) (task № T) p)
    for_task T (yes e) = as? (λ h. (some (truth_row true), moved h e)) (λ h. its h.1) (triggers? t trig T)
    for_task T (no n) = no (λ h. n (key h.1))

    go : (c : Component) → Dec (p ≡ trigger_active) → Dec (Named (SendTrigger t trig) c p)
    go (task № T) d = for_task T d
    go (data_item № n) d = no (λ h. let k = h.1 in elim k [ ])
    go (Table.candidate № n) d = no (λ h. let k = h.1 in elim k [ ])
    go (Table.argument № n) d = no (λ h. let k = h.1 in elim k [ ])
    go (Table.parameter № n) d = no (λ h. let k = h.1 in elim k [ ])
    go (Table.source № n) d = no (λ h. let k = h.1 in elim k [ ])
    go (Table.warning_condition № n) d = no (λ h. let k = h.1 in elim k [ ])

-- the table that each of them leaves

pub confirms : (T : ℕ) (t : Table) → (t' : Table) × Replaces (ConfirmTask T) t t'
confirms T t = replace (confirm? T) t

pub adds_value : (d : ℕ) (w : Value) (t : Table) → (t' : Table) × Replaces (AddDataValue d w) t t'
adds_value d w t = replace (add? d w) t

pub sends : (t : Table) (trig : List ℕ) → (t' : Table) × Replaces (SendTrigger t trig) t t'
sends t trig = replace (send? t trig) t

-- ---- reading

shown : (p : Property) (r : RowValue) → (s : Shown) × ShownAs p r s
shown p (value_is w) = (shows_value w, shown_value)
shown p (state_is s) = (shows_state s, shown_state)
shown p (class_is k) = (shows_class k, shown_class)
shown p (type_is d) = (shows_type d, shown_type)
shown p (time_is n) = (shows_time n, shown_time)
shown p (expression_is e) = (there, there_expression)
shown p (assertion_is l) = (there, there_assertion)
shown p (component_is c) = (shows_component c, shown_component)
shown p (components_are l) = (there, there_components)

reads : (t : Table) (k n p : ℕ) → (s : Shown) × Reads t k n p s
reads t k n p = by_kind (at_f kinds k) refl
  where
    clash : {r : RowValue} → none ≡ some r → ⊥
    clash e = no_clash (cc)

    by_row : (x : Kind) (y : Property) → at_f kinds k ≡ some x → at_f properties p ≡ some y → (o : Option RowValue) → t (x № n) y ≡ o → (s : Shown) × Reads t k n p s
    by_row x y e f (some r) h = let z = shown y r in (z.0, a_row (record { kind = x; kind_at = at_has kinds k e; property_at = at_has properties p f; row = h }) z.1)
    by_row x y e f none h = (no_row, without_row absent)
      where
        absent : (q : Property) (r : RowValue) → ¬ RowAt t k n p q r
        absent q r a =
            let u : a.kind ≡ x = same_some (sym (at_only a.kind_at) ∙ e) in
            let v : q ≡ y = same_some (sym (at_only a.property_at) ∙ f) in
            let w : t (x № n) y ≡ some r = subst (λ (z : Property). t (x № n) z ≡ some r) v (subst (λ (z : Kind). t (z № n) q ≡ some r) u a.row) in
            clash (sym h ∙ w)

    by_property : (x : Kind) → at_f kinds k ≡ some x → (y : Option Property) → at_f properties p ≡ y → (s : Shown) × Reads t k n p s
    by_property x e (some y) f = by_row x y e f (t (x № n) y) refl
    by_property x e none f = (no_row, without_row (λ q r a. no_clash (cc (at_only a.property_at))))

    by_kind : (x : Option Kind) → at_f kinds k ≡ x → (s : Shown) × Reads t k n p s
    by_kind (some x) e = by_property x e (at_f properties p) refl
    by_kind none e = (no_row, without_row (λ q r a. no_clash (cc (at_only a.kind_at))))

-- ---- every call

pub record Replied (c : Call) (s : State) : Type 0 where
  pub reply : Reply
  pub after : State
  pub its : Calls c s reply after

replied : {c : Call} {s s' : State} {r : Reply} → Calls c s r s' → Replied c s
replied h = record { reply = _; after = _; its = h }

-- load, when reading has its answer
pub load_replies : {short : Bool} {text : List ℕ} {a : Answer} (s : State) → Answers (short ≡ true) text a → Replied (load text short) s
load_replies s (is_loaded r n) = replied (load_done (is_loaded r n) r (initial (bare_lawful (lawful (is_loaded r n) r))))
load_replies s (is_refused h) = replied (load_refused (is_refused h))

-- a data item has a type row
typed_item : {g : List TopLevel} {t : Table} → Kept g t → (d : ℕ) → DataItemId t d → (j : Declared) × Contains t (data_item № d) type (type_is j)
typed_item {g} {t} k d h = go (adds k fixed_class h)
  where
    go : {r : RowValue} → Adds g (data_item № d) class r → (j : Declared) × Contains t (data_item № d) type (type_is j)
    go (data_item_3 q) = (_, has k fixed_type (data_item_4b q))

module _ {g : Guideline} (l : Lawful g.structure) (k : Kept g.structure g.table) where
  run_replies : (n lent : ℕ) → Replied (run n lent) (loaded g)
  run_replies n lent = go (unready? g) (dec_lt cycle_limit n) (dec_lt lent changes_least)
    where
      go : Dec (Unready (loaded g)) → Dec (cycle_limit < n) → Dec (lent < changes_least) → Replied (run n lent) (loaded g)
      go (yes u) b c = replied (run_7 u)
      go (no u) (yes b) c = replied (run_6_bound u b)
      go (no u) (no b) (yes c) = replied (run_6_lent u c)
      go (no u) (no b) (no c) =
          replied (run_done u (let q : n ≤ cycle_limit = omega arith in q) (let q : changes_least ≤ lent = omega arith in q) (Enact.run l g.time n g.table g.flag k))

  time_replies : (x : ℕ) → Replied (set_engine_time x) (loaded g)
  time_replies x = go (unready? g) (dec_lt time_limit x)
    where
      go : Dec (Unready (loaded g)) → Dec (time_limit < x) → Replied (set_engine_time x) (loaded g)
      go (yes u) b = replied (time_7 u)
      go (no u) (yes b) = replied (time_6 u b)
      go (no u) (no b) = replied (time_done u (let q : x ≤ time_limit = omega arith in q))

  confirm_replies : (T : ℕ) → Replied (confirm_task T) (loaded g)
  confirm_replies T = go (unready? g) (task-id? g.table T)
    where
      go : Dec (Unready (loaded g)) → Dec (TaskId g.table T) → Replied (confirm_task T) (loaded g)
      go (yes u) b = replied (confirm_7 u)
      go (no u) (no b) = replied (confirm_8 u b)
      go (no u) (yes b) = replied (confirm_done u b (confirms T g.table).1)

  add_replies : (d : ℕ) (w : Option Value) → Replied (add_data_value d w) (loaded g)
  add_replies d w = go w (unready? g) (decided (is_held sees_class is_same_class (g.table (data_item № d) class) a_data_item))
    where
      typed : ¬ Unready (loaded g) → DataItemId g.table d → (v : Value) (j : Declared) → Contains g.table (data_item № d) type (type_is j) → Dec (Of v (inferred j)) → Dec (Small v) → Replied (add_data_value d (some v)) (loaded g)
      typed u b v j t (no o) m = replied (add_9 u b t o)
      typed u b v j t (yes o) (no m) = replied (add_6 u b t o m)
      typed u b v j t (yes o) (yes m) = replied (add_done u b t o m (replace (add? d v) g.table).1)

      go : (w : Option Value) → Dec (Unready (loaded g)) → Dec (DataItemId g.table d) → Replied (add_data_value d w) (loaded g)
      go w (yes u) b = replied (add_7 u)
      go w (no u) (no b) = replied (add_8 u b)
      go none (no u) (yes b) = replied (add_9_none u b)
      go (some v) (no u) (yes b) = let j = typed_item k d b in typed u b v j.0 j.1 (of? v (inferred j.0)) (small? v)

  trigger_replies : (trig : List ℕ) → Replied (send_trigger trig) (loaded g)
  trigger_replies trig = go (unready? g) (small-text? trig)
    where
      go : Dec (Unready (loaded g)) → Dec (SmallText trig) → Replied (send_trigger trig) (loaded g)
      go (yes u) b = replied (trigger_7 u)
      go (no u) (no b) = replied (trigger_6 u b)
      go (no u) (yes b) = replied (trigger_done u b (sends g.table trig).1)

  read_replies : (x n p : ℕ) → Replied (read_row x n p) (loaded g)
  read_replies x n p = replied (read_done (reads g.table x n p).1)

pub data NotLoad : Call → Type 0 where
  is_run : {n lent : ℕ} → NotLoad (run n lent)
  is_time : {x : ℕ} → NotLoad (set_engine_time x)
  is_confirm : {T : ℕ} → NotLoad (confirm_task T)
  is_add : {d : ℕ} {w : Option Value} → NotLoad (add_data_value d w)
  is_trigger : {trig : List ℕ} → NotLoad (send_trigger trig)
  is_read : {k n p : ℕ} → NotLoad (read_row k n p)

pub call_replies : {c : Call} {s : State} → Good s → NotLoad c → Replied c s
call_replies good_empty is_run = replied (run_7 nothing_loaded)
call_replies good_empty is_time = replied (time_7 nothing_loaded)
call_replies good_empty is_confirm = replied (confirm_7 nothing_loaded)
call_replies good_empty is_add = replied (add_7 nothing_loaded)
call_replies good_empty is_trigger = replied (trigger_7 nothing_loaded)
call_replies good_empty is_read = replied read_7
call_replies (good_loaded l z t m) (is_run {n} {lent}) = run_replies l t.kept n lent
call_replies (good_loaded l z t m) (is_time {x}) = time_replies l t.kept x
call_replies (good_loaded l z t m) (is_confirm {T}) = confirm_replies l t.kept T
call_replies (good_loaded l z t m) (is_add {d} {w}) = add_replies l t.kept d w
call_replies (good_loaded l z t m) (is_trigger {trig}) = trigger_replies l t.kept trig
call_replies (good_loaded l z t m) (is_read {k = x} {n} {p}) = read_replies l t.kept x n p

-- ---- exactly one reply

pub record OneReply (c : Call) (s : State) : Type 0 where
  pub reply : Reply
  pub after : State
  pub its : Calls c s reply after
  pub only : {r : Reply} {t : State} → Calls c s r t → SameCall r t reply after

only_reply : {c : Call} {s : State} → Replied c s → OneReply c s
only_reply h = record { reply = h.reply; after = h.after; its = h.its; only = λ k. one_call k h.its }

-- of every call but load, in every state that a series of calls reaches
pub one_reply : {c : Call} {s : State} → Series s → NotLoad c → OneReply c s
one_reply h n = only_reply (call_replies (series_good h) n)

-- of a load, in any state, for every text
pub one_load : (short : Bool) (text : List ℕ) (s : State) → OneReply (load text short) s
one_load short b s = only_reply (load_replies s (exactly_one_answer (is-true? short) b).fits)
  where
    is-true? : (x : Bool) → Dec (x ≡ true)
    is-true? true = yes refl
    is-true? false = no (λ e. no_clash (cc))

-- ---- the lent Changes table is left in one way

abbrev blanks : {Row : Type 0} → Row → List Row → List Row
blanks b [] = []
blanks b (x ∷ l) = b ∷ blanks b l

blanks_length : {Row : Type 0} (b : Row) (l : List Row) → length (blanks b l) ≡ length l
blanks_length b [] = refl
blanks_length b (x ∷ l) = ap suc (blanks_length b l)

blanks_blank : {Row : Type 0} (b : Row) (l : List Row) (i : ℕ) (x : Row) → At (blanks b l) i x → x ≡ b
blanks_blank b [] i x h = absurd (no_element h)
blanks_blank {Row} b (y ∷ l) i x h = go h (λ j q. blanks_blank b l j x q)
  where
    go : {i : ℕ} → At (b ∷ blanks b l) i x → ((j : ℕ) → At (blanks b l) j x → x ≡ b) → x ≡ b
    go q r = by (first_or_later q)
      where
        first_or_later : {A : Type 0} {l : List A} {x y : A} {i : ℕ} → At (x ∷ l) i y → (x ≡ y) ⊎ ((j : ℕ) × At l j y)
        first_or_later at_first = inl refl
        first_or_later (at_later {i} h) = inr (i, h)

        by : (b ≡ x) ⊎ ((j : ℕ) × At (blanks b l) j x) → x ≡ b
        by (inl e) = sym e
        by (inr z) = r z.0 z.1

all_blank : {Row : Type 0} (b : Row) (l m : List Row) → length m ≡ length l → ((i : ℕ) (x : Row) → At m i x → x ≡ b) → m ≡ blanks b l
all_blank b [] [] e f = refl
all_blank b [] (y ∷ m) e f = absurd (let z : ⊥ = omega arith in z)
all_blank b (x ∷ l) [] e f = absurd (let z : ⊥ = omega arith in z)
all_blank b (x ∷ l) (y ∷ m) e f = let p = f 0 y at_first in let q = all_blank b l m (let z : length m ≡ length l = omega arith in z) (λ i z h. f (suc i) z (at_later h)) in cc

pub one_lent : {Row : Type 0} {b : Row} {r : Reply} {l m n : List Row} → Leaves b r l m → Leaves b r l n → m ≡ n
one_lent {b} {l} (left_blank {rows' = m} e f) (left_blank {rows' = n} g h) = all_blank b l m e f ∙ sym (all_blank b l n g h)
one_lent left_as_it_was left_as_it_was = refl

-- and it is left in some way by every run
pub some_lent : {Row : Type 0} {b : Row} {n lent : ℕ} {s s' : State} {r : Reply} (l : List Row) → Calls (run n lent) s r s' → (m : List Row) × Leaves b r l m
some_lent l (run_7 u) = (l, left_as_it_was)
some_lent l (run_6_bound u b) = (l, left_as_it_was)
some_lent l (run_6_lent u b) = (l, left_as_it_was)
some_lent {b} l (run_done u x y z) = (blanks b l, left_blank (blanks_length b l) (blanks_blank b l))
