-- Law: what the plan says of the tasks is what their rows hold: classes, parents, triggers, terminal and confirmatory. By cases on each row.
use Rattle.std.specs.Prelude.{ℕ, ◌+◌, ◌<◌, ◌≤◌, ◌≡◌, refl, Bool, true, ◌↔◌, ◌⊎◌, List, get_or, length}
use Rattle.std.proofs.Common.{arith, sym, ap, subst, ◌∙◌, inl, inr, eqb-true, eq-eqb}
use Rattle.std.proofs.Math.Option.{none, some}
use Rattle.paper_expressions.specs.View.{At}
use Rattle.paper_expressions.proofs.Laws.Search.{no_clash, at_one}
use Rattle.paper_guideline.specs.Structure
use Structure.{Name, Task, TopLevel, tasks}
use Rattle.paper_guideline.specs.Parts as Parts
use Rattle.paper_rows.specs.Table
use Table.{task, Component, ◌№◌, Class, an_action, a_decision, RowValue, class_is, component_is, text_row, truth_row, Table, Contains, TaskId}
use Rattle.paper_rows.specs.Load
use Load.{InstantiateComponent, SetTaskAttribute, SetComponentAttribute, class_constant, ClassRow, Adds, task_2, component_3a, component_3b, component_attribute_5, attribute_1c, attribute_5_trigger}
use Rattle.paper_rows.proofs.Laws.Lists.{at_below, below_at}
use Rattle.paper_rows.proofs.Laws.Lawful.{Lawful, defined}
use Rattle.paper_engine.proofs.Laws.Kept.{Kept, fixed_class, fixed_parent, adds, has}
use Rattle.paper_engine.proofs.Laws.Chains.{task_below, below_task}
use Rattle.waits.specs.Booleans.{Tests}
use Rattle.waits.specs.Twins.{parent_at, trigger_f, terminal_f, confirmatory_f, class_f}
use Rattle.waits.specs.Worked.{Parent, HasTrigger}
use Rattle.planned.specs.Planned.{answered}
use Rattle.plan_told.specs.Told.{TasksTold, class_code, answer, confirm_code}
use Rattle.plan_told.proofs.RowLaws.{by_cases, same_some, same_truth, answer_yes, answered_as, not_added, component_task, component_plan}

-- ---- what put a row there

parent_by : {g : List TopLevel} {T : ℕ} {r : RowValue} → Adds g (task № T) Table.parent_plan r → (P : ℕ) × (a : Parts.Component) × InstantiateComponent g P a T × (r ≡ component_is (task № P))
parent_by (attribute_1c {c} {a} h) = (c, a, h, refl)

pub trigger_by : {g : List TopLevel} {T : ℕ} {r : RowValue} → Adds g (task № T) Table.trigger r → (n : Name) × SetTaskAttribute g T (Structure.trigger n) × (r ≡ text_row n.spelt)
trigger_by (attribute_5_trigger {n} h) = (n, h, refl)

terminal_by : {g : List TopLevel} {T : ℕ} {r : RowValue} → Adds g (task № T) Table.terminal r → (P : ℕ) × (b : Bool) × SetComponentAttribute g T P (Structure.terminal b) × (r ≡ truth_row b)
terminal_by (component_attribute_5 {p} {b} h) = (p, b, h, refl)

-- ---- classes

code_class : (k j : Structure.Class) → class_code k ≡ class_code j → class_constant k ≡ class_constant j
code_class Structure.plan Structure.plan e = refl
code_class Structure.plan Structure.action e = absurd (omega arith)
code_class Structure.plan Structure.enquiry e = absurd (omega arith)
code_class Structure.action Structure.plan e = absurd (omega arith)
code_class Structure.action Structure.action e = refl
code_class Structure.action Structure.enquiry e = absurd (omega arith)
code_class Structure.enquiry Structure.plan e = absurd (omega arith)
code_class Structure.enquiry Structure.action e = absurd (omega arith)
code_class Structure.enquiry Structure.enquiry e = refl

class_coded : (k j : Structure.Class) → class_constant k ≡ class_constant j → class_code k ≡ class_code j
class_coded Structure.plan Structure.plan e = refl
class_coded Structure.plan Structure.action e = absurd (no_clash (cc))
class_coded Structure.plan Structure.enquiry e = absurd (no_clash (cc))
class_coded Structure.action Structure.plan e = absurd (no_clash (cc))
class_coded Structure.action Structure.action e = refl
class_coded Structure.action Structure.enquiry e = absurd (no_clash (cc))
class_coded Structure.enquiry Structure.plan e = absurd (no_clash (cc))
class_coded Structure.enquiry Structure.action e = absurd (no_clash (cc))
class_coded Structure.enquiry Structure.enquiry e = refl

confirms_action : (k : Structure.Class) → confirm_code k ≡ 1 → class_constant k ≡ an_action
confirms_action Structure.plan e = absurd (omega arith)
confirms_action Structure.action e = refl
confirms_action Structure.enquiry e = absurd (omega arith)

action_confirms : (k : Structure.Class) → (class_constant k ≡ a_decision) ⊎ (class_constant k ≡ an_action) → confirm_code k ≡ 1
action_confirms Structure.plan (inl e) = absurd (no_clash (cc))
action_confirms Structure.plan (inr e) = absurd (no_clash (cc))
action_confirms Structure.action z = refl
action_confirms Structure.enquiry (inl e) = absurd (no_clash (cc))
action_confirms Structure.enquiry (inr e) = absurd (no_clash (cc))

same_class : {k j : Class} → class_is k ≡ class_is j → k ≡ j
same_class e = cc

module _ {g : List TopLevel} {f : List ℕ} {t : Table} (lawful : Lawful g) (told : TasksTold g f) (kept : Kept g t) where
  its_task : {T : ℕ} → T < get_or f 0 0 → (k : Task) × At (tasks g) T k
  its_task {T} l = let e = told.number in below_at (tasks g) T (omega arith)

  pub ids : (T : ℕ) → TaskId t T ↔ (T < get_or f 0 0)
  ids T = (λ h. (let e = told.number in let l = task_below lawful kept h in omega arith), λ l. (let e = told.number in below_task lawful kept (omega arith)))

  -- the class of a task
  class_row : {T : ℕ} {k : Task} → At (tasks g) T k → Contains t (task № T) Table.class (class_is (class_constant k.class))
  class_row {k = k} h = has kept fixed_class (task_2 (record { definition = k; instantiated = lawful.reached h; constant = refl }))

  pub classes : {T : ℕ} (j : Structure.Class) → T < get_or f 0 0 → Tests (class_f f T (class_code j)) (Contains t (task № T) Table.class (class_is (class_constant j)))
  classes {T} j l =
      let k = its_task l in
      let e = told.class k.1 in (
        λ q. class_row k.1 ∙ ap (λ (z : Class). some (class_is z)) (code_class k.0.class j (sym e ∙ eqb-true (get_or f (168 + T) 0) (class_code j) q)),
        λ q. eq-eqb (get_or f (168 + T) 0) (class_code j) (e ∙ class_coded k.0.class j (same_class (same_some (class_row k.1) q))),
      )

  -- ---- its parent

  few : length (tasks g) ≤ 32 → {P T : ℕ} {a : Parts.Component} → InstantiateComponent g P a T → P < 32
  few n h = let l = at_below (component_plan h).1 in omega arith

  pub parents : length (tasks g) ≤ 32 → {T : ℕ} → T < get_or f 0 0 → Parent (parent_at f T) (t (task № T) Table.parent_plan)
  parents n {T} l = record { none_there = none_there; there = λ {P} e. there P e }
    where
      none_there : parent_at f T ≡ 0 → t (task № T) Table.parent_plan ≡ none
      none_there e = by_cases (t (task № T) Table.parent_plan) (λ q. q)
          (λ r h. absurd (let k = parent_by (adds kept fixed_parent h) in let q = told.parent k.2 in omega arith))

      there : (P : ℕ) → parent_at f T ≡ P + 1 → (P < 32) × (t (task № T) Table.parent_plan ≡ some (component_is (task № P)))
      there P e = by_cases (t (task № T) Table.parent_plan)
          (λ q. absurd (let c = told.number in let z = told.no_parent {T = T} (omega arith) (λ P a h. not_added kept fixed_parent q (attribute_1c h)) in omega arith))
          (λ r h. let k = parent_by (adds kept fixed_parent h) in
          let q = told.parent k.2 in
          let w : k.0 ≡ P = omega arith in
          (subst (λ (z : ℕ). z < 32) w (few n k.2), h ∙ ap some k.3 ∙ ap (λ (z : ℕ). some (component_is (task № z))) w))

  pub no_parents : length (tasks g) ≤ 32 → {T : ℕ} → T < 32 → ¬ (T < get_or f 0 0) → parent_at f T ≡ 0
  no_parents n {T} l m = told.no_parent l (λ P a h. let k = at_below (component_task h).1 in let e = told.number in omega arith)

  pub past : {T P : ℕ} → ¬ (T < get_or f 0 0) → ¬ Contains t (task № T) Table.parent_plan (component_is (task № P))
  past m h = let k = at_below (component_task (parent_by (adds kept fixed_parent h)).2).1 in let e = told.number in omega arith

  -- ---- trigger, terminal, confirmatory

  pub triggers : length (tasks g) ≤ 32 → {T : ℕ} → T < get_or f 0 0 → Tests (trigger_f f T) (HasTrigger t T)
  triggers n {T} l = (to, back)
    where
      to : trigger_f f T ≡ true → HasTrigger t T
      to q = by_cases (t (task № T) Table.trigger)
          (λ z. absurd (let c = told.number in let e = told.no_trigger {T = T} (omega arith) (λ m h. not_added kept (λ x. elim x [ ]) z (attribute_5_trigger h)) in let d = eqb-true (get_or f (40 + T) 0) 1 q in omega arith))
          (λ r h. let k = trigger_by (adds kept (λ x. elim x [ ]) h) in (k.0.spelt, h ∙ ap some k.2))

      back : HasTrigger t T → trigger_f f T ≡ true
      back h = eq-eqb (get_or f (40 + T) 0) 1 (told.trigger (trigger_by (adds kept (λ x. elim x [ ]) h.1)).1)

  pub terminals : length (tasks g) ≤ 32 → {T : ℕ} → T < get_or f 0 0 → Tests (terminal_f f T) (Contains t (task № T) Table.terminal (truth_row true))
  terminals n {T} l = (to, back)
    where
      to : terminal_f f T ≡ true → Contains t (task № T) Table.terminal (truth_row true)
      to q =
          let d = eqb-true (get_or f (72 + T) 0) 1 q in
          by_cases (t (task № T) Table.terminal)
          (λ z. absurd (let c = told.number in let e = told.no_terminal {T = T} (omega arith) (λ P b h. not_added kept (λ x. elim x [ ]) z (component_attribute_5 h)) in omega arith))
          (λ r h. let k = terminal_by (adds kept (λ x. elim x [ ]) h) in
          h ∙ ap some k.3 ∙ ap (λ (b : Bool). some (truth_row b)) (answer_yes k.1 (sym (told.terminal k.2) ∙ d)))

      back : Contains t (task № T) Table.terminal (truth_row true) → terminal_f f T ≡ true
      back h =
          let k = terminal_by (adds kept (λ x. elim x [ ]) h) in
          eq-eqb (get_or f (72 + T) 0) 1 (told.terminal k.2 ∙ ap answer (sym (same_truth k.3)))

  confirm_by : {T : ℕ} {r : RowValue} → Adds g (task № T) Table.confirmatory r
      → (P : ℕ) × (a : Parts.Component) × InstantiateComponent g P a T × (((k : Task) → At (tasks g) T k → confirm_code k.class ≡ 1) → r ≡ truth_row true) × (r ≡ truth_row true → (k : Task) → At (tasks g) T k → confirm_code k.class ≡ 1)
  confirm_by {T} (component_3a {p} {a} h u) = (p, a, h, (λ z. refl), λ z k q. action_confirms k.class (is_class k q u))
    where
      of : {j : Class} (k : Task) → At (tasks g) T k → ClassRow g T j → class_constant k.class ≡ j
      of k q c = ap (λ (x : Task). class_constant x.class) (at_one q (defined c.instantiated)) ∙ c.constant

      is_class : (k : Task) → At (tasks g) T k → ClassRow g T a_decision ⊎ ClassRow g T an_action → (class_constant k.class ≡ a_decision) ⊎ (class_constant k.class ≡ an_action)
      is_class k q (inl c) = inl (of k q c)
      is_class k q (inr c) = inr (of k q c)
  confirm_by {T} (component_3b {p} {a} h m) = (
    p,
    a,
    h,
    λ z. absurd (let k = component_task h in m (inr (record { definition = k.0; instantiated = lawful.reached k.1; constant = confirms_action k.0.class (z k.0 k.1) }))),
    λ z. absurd (no_clash (cc)),
  )

  pub confirms : length (tasks g) ≤ 32 → {T : ℕ} → T < get_or f 0 0 → Tests (confirmatory_f f T) (Contains t (task № T) Table.confirmatory (truth_row true))
  confirms n {T} l = (to, back)
    where
      to : confirmatory_f f T ≡ true → Contains t (task № T) Table.confirmatory (truth_row true)
      to q =
          let d = eqb-true (get_or f (136 + T) 0) 1 q in
          by_cases (t (task № T) Table.confirmatory)
          (λ z. absurd (let c = told.number in let e = told.no_confirmatory {T = T} (omega arith) (λ P a h. unconfirmed z h) in omega arith))
          (λ r h. let k = confirm_by (adds kept (λ x. elim x [ ]) h) in h ∙ ap some (k.3 (λ j i. sym (told.confirmatory k.2 i) ∙ d)))
        where
          unconfirmed : t (task № T) Table.confirmatory ≡ none → {P : ℕ} {a : Parts.Component} → ¬ InstantiateComponent g P a T
          unconfirmed z h = not_added kept (λ x. elim x [ ]) z (component_3b h (λ u. not_added kept (λ x. elim x [ ]) z (component_3a h u)))

      back : Contains t (task № T) Table.confirmatory (truth_row true) → confirmatory_f f T ≡ true
      back h =
          let k = confirm_by (adds kept (λ x. elim x [ ]) h) in
          let j = component_task k.2 in
          eq-eqb (get_or f (136 + T) 0) 1 (told.confirmatory k.2 j.1 ∙ k.4 refl j.0 j.1)

  -- ---- their rows, as reading asks for them

  pub terminal_rows : length (tasks g) ≤ 32 → {T : ℕ} → T < get_or f 0 0 → t (task № T) Table.terminal ≡ answered (get_or f (72 + T) 0)
  terminal_rows n {T} l = by_cases (t (task № T) Table.terminal)
      (λ z. let c = told.number in
      let e = told.no_terminal {T = T} (omega arith) (λ P b h. not_added kept (λ x. elim x [ ]) z (component_attribute_5 h)) in
      z ∙ sym (ap answered e))
      (λ r h. let k = terminal_by (adds kept (λ x. elim x [ ]) h) in h ∙ ap some k.3 ∙ sym (ap answered (told.terminal k.2) ∙ answered_as k.1))

  not_action : (k : Structure.Class) → ¬ (class_constant k ≡ an_action) → confirm_code k ≡ 2
  not_action Structure.plan n = refl
  not_action Structure.action n = absurd (n refl)
  not_action Structure.enquiry n = refl

  confirm_row : {T : ℕ} {r : RowValue} → Adds g (task № T) Table.confirmatory r → (P : ℕ) × (a : Parts.Component) × (k : Task) × InstantiateComponent g P a T × At (tasks g) T k × (some r ≡ answered (confirm_code k.class))
  confirm_row {T} (component_3a {p} {a} h u) =
      let k = component_task h in
      let z = confirm_by (component_3a h u) in
      (p, a, k.0, h, k.1, sym (ap answered (z.4 refl k.0 k.1)))
  confirm_row {T} (component_3b {p} {a} h m) =
      let k = component_task h in
      (p, a, k.0, h, k.1, sym (ap answered (not_action k.0.class (λ e. m (inr (record { definition = k.0; instantiated = lawful.reached k.1; constant = e }))))))

  pub confirmatory_rows : length (tasks g) ≤ 32 → {T : ℕ} → T < get_or f 0 0 → t (task № T) Table.confirmatory ≡ answered (get_or f (136 + T) 0)
  confirmatory_rows n {T} l = by_cases (t (task № T) Table.confirmatory)
      (λ z. let c = told.number in
      let e = told.no_confirmatory {T = T} (omega arith) (λ P a h. not_added kept (λ x. elim x [ ]) z (component_3b h (λ u. not_added kept (λ x. elim x [ ]) z (component_3a h u)))) in
      z ∙ sym (ap answered e))
      (λ r h. let k = confirm_row (adds kept (λ x. elim x [ ]) h) in h ∙ k.5 ∙ sym (ap answered (told.confirmatory k.3 k.4)))

  pub no_optional : {T : ℕ} → ¬ Contains t (task № T) Table.optional (truth_row true)
  no_optional h = absurd (elim (adds kept (λ x. elim x [ ]) h) [ ])
