-- Law: the plan that the rows write says of the tasks what the structure has. For each column: the row that writes a cell, and what every row that writes it is of.
use Rattle.std.specs.Prelude.{ℕ, zero, suc, ◌+◌, ◌-◌, ◌≤◌, ◌<◌, ◌≡◌, refl, Bool, true, false, cond, ◌&&◌, ◌⊎◌, List, eqb, get_or, length}
use Rattle.std.proofs.Common.{arith, sym, ap, subst, ◌∙◌, inl, inr, eqb-true, eq-eqb}
use Rattle.paper_expressions.specs.View.{At}
use Rattle.paper_expressions.proofs.Laws.Tests.{two}
use Rattle.paper_expressions.proofs.Laws.Search.{at_one}
use Rattle.paper_tokens.specs.Tokens.{“action”, “component”, “trigger”, “terminal”}
use Rattle.paper_guideline.specs.Structure
use Structure.{Name, ComponentAttribute, Attribute, class_word, Task, TopLevel, tasks}
use Rattle.paper_guideline.specs.Parts.{Component}
use Rattle.paper_rows.specs.Load.{InstantiateComponent, SetTaskAttribute, task_4, SetComponentAttribute, component_4, component_attribute_5}
use Rattle.paper_rows.proofs.Laws.Lists.{at_below}
use Rattle.paper_rows.proofs.Laws.Lawful.{Lawful, defined}
use Rattle.paper_rows.proofs.Laws.SingleLaws.{component_once, adds_once}
use Rattle.parts.specs.Part.{Table}
use Rattle.guideline_rows.specs.Rows.{component_row, kind-of, flag_of, answer_code}
use Rattle.row_names.specs.Sheet.{task_kind}
use Rattle.waits.specs.Twins.{parent_at}
use Rattle.plan.specs.Writes as Writes
use Writes.{Outline, one_if, plan_f, plan, tasks_before, task_row, task_named, child}
use Rattle.plan.specs.Filled.{Held}
use Rattle.plan_told.specs.Told.{class_code, answer, confirm_code, TasksTold}
use Rattle.plan_told.proofs.RowLaws.{same_truth, component_task}
use Rattle.plan_rows.specs.Stands.{Stands, stands_of}
use Rattle.plan_rows.specs.Reads.{Reads}
use Rattle.plan_rows.specs.ReadLaws.{below, head_row_of, tasks_at, is_head, head_seen, tasks_in_all, tasks_owned}
use Rattle.plan_rows.specs.Words.{only_trigger, word_at, word_set, set_row}
use Rattle.plan_rows.specs.Components.{named_as, class_as, component_seen, component_row_of, in_component_seen, in_component_of}
use Rattle.plan_law.specs.Written.{unwritten, written}
use Rattle.plan_law.specs.Columns
use Columns.{class_number, write_task_count, write_class, write_parent, write_confirms, write_triggered, write_terminal}

pub code_answer : (b : Bool) → answer_code b ≡ answer b
code_answer true = refl
code_answer false = refl

class_numbered : (k : Structure.Class) → class_number (class_word k) ≡ class_code k
class_numbered Structure.plan = refl
class_numbered Structure.action = refl
class_numbered Structure.enquiry = refl

confirms_as : (k : Structure.Class) → Writes.answer (eqb (class_word k) “action”) ≡ confirm_code k
confirms_as Structure.plan = refl
confirms_as Structure.action = refl
confirms_as Structure.enquiry = refl

only_terminal : (p : ℕ) (c : ComponentAttribute) → kind-of (component_row p c) ≡ “terminal” → (b : Bool) × (c ≡ Structure.terminal b)
only_terminal p (Structure.schedule_constraint n) e = absurd (omega arith)
only_terminal p (Structure.terminal b) e = (b, refl)

module _ {g : List TopLevel} {s : Outline} {p : Table} {f : List ℕ} (lawful : Lawful g) (few : length (tasks g) ≤ 32) (reads : Reads s p g) (held : Held (plan s) f) where
  -- ---- heads of tasks

  -- the row of the task T
  pub task_at : {T : ℕ} {t : Task} → At (tasks g) T t → (q : ℕ) → q < s.count → task_kind (s.kind q) ≡ true → tasks_before s q ≡ T → (k : ℕ) × Stands g k q T t
  task_at {T} {t} h q l e z =
      let x = head_seen reads q l e in
      let w : x.T ≡ T = sym (tasks_at reads x.stands) ∙ z in
      let y : Stands g x.k q T x.t = subst (λ (n : ℕ). Stands g x.k q n x.t) w x.stands in
      (x.k, subst (λ (u : Task). Stands g x.k q T u) (at_one y.at h) y)

  pub in_room : {T : ℕ} {t : Task} → At (tasks g) T t → T < 32
  in_room h = let l = at_below h in omega arith

  total : (k : ℕ) → plan_f s k Writes.task_count 0 ≡ tasks_before s k
  total zero = refl
  total (suc k) = write_task_count s 0 k ∙ go (two (task_kind (s.kind k))) (total k)
    where
      go : (task_kind (s.kind k) ≡ true) ⊎ (task_kind (s.kind k) ≡ false) → plan_f s k Writes.task_count 0 ≡ tasks_before s k
          → cond (task_kind (s.kind k) && eqb 0 0) (tasks_before s k + 1) (plan_f s k Writes.task_count 0) ≡ tasks_before s k + one_if (task_kind (s.kind k))
      go (inl q) h = rw q
      go (inr q) h = rw q (h ∙ (let z : tasks_before s k ≡ tasks_before s k + 0 = omega arith in z))

  number : get_or f 0 0 ≡ length (tasks g)
  number = held.cells Writes.task_count 0 (omega arith) ∙ total s.count ∙ tasks_in_all reads

  class : {T : ℕ} {t : Task} → At (tasks g) T t → get_or f (168 + T) 0 ≡ class_code t.class
  class {T} {t} h =
      let x = stands_of g h in
      let w = written (λ k. plan_f s k Writes.class T) (λ k. task_kind (s.kind k)) (λ k. tasks_before s k) (λ k. class_number (s.kind k)) T refl (λ k. write_class s T k) s.count
      (below reads (head_row_of reads x.2)) (is_head reads x.2) (tasks_at reads x.2) in
      let y = task_at h w.k w.below w.of w.there in
      held.cells Writes.class T (in_room h) ∙ w.cell ∙ ap class_number (reads.kind (head_row_of reads y.1)) ∙ class_numbered t.class

  -- ---- components

  same_named : {P T Q U : ℕ} {a b : Component} → InstantiateComponent g P a T → InstantiateComponent g Q b U → U ≡ T → Q ≡ P
  same_named {Q = Q} {b = b} h k e = (component_once lawful (subst (λ (n : ℕ). InstantiateComponent g Q b n) e k) h).plans

  parent : {P T : ℕ} {a : Component} → InstantiateComponent g P a T → parent_at f T ≡ P + 1
  parent {P} {T} h =
      let x = component_row_of lawful reads h in
      let w = written (λ k. plan_f s k Writes.parent T) (λ k. eqb (s.kind k) “component”) (λ k. task_named s (s.spelt k)) (λ k. tasks_before s k) T refl (λ k. write_parent s T k) s.count x.1 x.2 x.3 in
      let y = component_seen lawful reads w.k w.below w.of in
      let z : y.T ≡ T = sym (named_as lawful reads (s.spelt w.k) y.its y.spelt) ∙ w.there in
      let v = same_named h y.its z in
      let u = held.cells Writes.parent T (in_room (component_task h).1) ∙ w.cell ∙ y.plan in
      omega arith

  no_component : {T : ℕ} → ((P : ℕ) (a : Component) → ¬ InstantiateComponent g P a T) → (k : ℕ) → k < s.count → eqb (s.kind k) “component” ≡ true → ¬ (task_named s (s.spelt k) ≡ T)
  no_component n k l e z =
      let y = component_seen lawful reads k l e in
      let v = sym (named_as lawful reads (s.spelt k) y.its y.spelt) ∙ z in
      n y.P y.a (subst (λ (i : ℕ). InstantiateComponent g y.P y.a i) v y.its)

  no_parent : {T : ℕ} → T < 32 → ((P : ℕ) (a : Component) → ¬ InstantiateComponent g P a T) → parent_at f T ≡ 0
  no_parent {T} l n =
      held.cells Writes.parent T l
      ∙ unwritten (λ k. plan_f s k Writes.parent T) (λ k. eqb (s.kind k) “component”) (λ k. task_named s (s.spelt k)) (λ k. tasks_before s k) T refl (λ k. write_parent s T k) s.count (no_component n)

  confirmatory : {P T : ℕ} {a : Component} {t : Task} → InstantiateComponent g P a T → At (tasks g) T t → get_or f (136 + T) 0 ≡ confirm_code t.class
  confirmatory {P} {T} {t = t} h i =
      let x = component_row_of lawful reads h in
      let w = written (λ k. plan_f s k Writes.confirms T) (λ k. eqb (s.kind k) “component”) (λ k. task_named s (s.spelt k)) (λ k. Writes.answer (eqb (s.kind (task_row s (s.spelt k))) “action”)) T refl
      (λ k. write_confirms s T k) s.count x.1 x.2 x.3 in
      let y = component_seen lawful reads w.k w.below w.of in
      let z : y.T ≡ T = sym (named_as lawful reads (s.spelt w.k) y.its y.spelt) ∙ w.there in
      let c = class_as lawful reads (s.spelt w.k) (subst (λ (n : ℕ). InstantiateComponent g y.P y.a n) z y.its) y.spelt i in
      held.cells Writes.confirms T (in_room i) ∙ w.cell ∙ ap (λ (n : ℕ). Writes.answer (eqb n “action”)) c ∙ confirms_as t.class

  no_confirmatory : {T : ℕ} → T < 32 → ((P : ℕ) (a : Component) → ¬ InstantiateComponent g P a T) → get_or f (136 + T) 0 ≡ 0
  no_confirmatory {T} l n =
      held.cells Writes.confirms T l
      ∙ unwritten (λ k. plan_f s k Writes.confirms T) (λ k. eqb (s.kind k) “component”) (λ k. task_named s (s.spelt k)) (λ k. Writes.answer (eqb (s.kind (task_row s (s.spelt k))) “action”)) T refl
      (λ k. write_confirms s T k) s.count (no_component n)

  -- ---- triggers

  pub set_room : {T : ℕ} {a : Attribute} → SetTaskAttribute g T a → T < 32
  set_room (task_4 i h) = in_room (defined i)

  trigger : {T : ℕ} {n : Name} → SetTaskAttribute g T (Structure.trigger n) → get_or f (40 + T) 0 ≡ 1
  trigger {T} h =
      let x = set_row reads h in
      let w = written (λ k. plan_f s k Writes.triggered T) (λ k. eqb (s.kind k) “trigger”) (λ k. tasks_before s k - 1) (λ k. 1) T refl (λ k. write_triggered s T k) s.count
      x.below x.word (let e = x.tasks in omega arith) in
      held.cells Writes.triggered T (set_room h) ∙ w.cell

  no_trigger : {T : ℕ} → T < 32 → ((n : Name) → ¬ SetTaskAttribute g T (Structure.trigger n)) → get_or f (40 + T) 0 ≡ 0
  no_trigger {T} l n =
      held.cells Writes.triggered T l
      ∙ unwritten (λ k. plan_f s k Writes.triggered T) (λ k. eqb (s.kind k) “trigger”) (λ k. tasks_before s k - 1) (λ k. 1) T refl (λ k. write_triggered s T k) s.count none
    where
      none : (k : ℕ) → k < s.count → eqb (s.kind k) “trigger” ≡ true → ¬ (tasks_before s k - 1 ≡ T)
      none k u e z =
          let x = (word_at reads “trigger” k u e refl refl refl).1 in
          let o = only_trigger x.b.what x.word in
          let y = tasks_owned reads x.owned in
          let v : x.T ≡ T = omega arith in
          n o.0 (subst (SetTaskAttribute g T) o.1 (subst (λ (i : ℕ). SetTaskAttribute g i x.b.what) v (word_set reads lawful x)))

  -- ---- terminal

  -- a row of this word that is written to the cell of T
  terminal_of : {T : ℕ} (k : ℕ) → k < s.count → eqb (s.kind k) “terminal” ≡ true → child s k ≡ T → (P : ℕ) × (b : Bool) × SetComponentAttribute g T P (Structure.terminal b) × (s.flag k ≡ answer b)
  terminal_of {T} k l e z =
      let y = in_component_seen lawful reads “terminal” k l e refl refl refl refl in
      let o = only_terminal y.x.word y.x.what (sym (reads.kind y.row) ∙ eqb-true (s.kind k) “terminal” e) in
      let v : y.T ≡ T = sym y.child ∙ z in (
        y.P,
        o.0,
        component_4 (subst (λ (n : ℕ). InstantiateComponent g y.P y.a n) v y.its) (subst (λ (c : ComponentAttribute). At y.a.attributes y.i (record { word = y.x.word; what = c })) o.1 y.at),
        reads.flag y.row ∙ ap (λ (c : ComponentAttribute). flag_of (component_row y.x.word c)) o.1 ∙ code_answer o.0,
      )

  terminal : {P T : ℕ} {b : Bool} → SetComponentAttribute g T P (Structure.terminal b) → get_or f (72 + T) 0 ≡ answer b
  terminal {P} {T} {b} (component_4 {k = i} {w = v} h a) =
      let x = in_component_of lawful reads {x = record { word = v; what = Structure.terminal b }} h a in
      let w = written (λ k. plan_f s k Writes.terminal T) (λ k. eqb (s.kind k) “terminal”) (λ k. child s k) (λ k. s.flag k) T refl (λ k. write_terminal s T k) s.count
      (below reads x.1) (eq-eqb (s.kind x.0) “terminal” (reads.kind x.1)) x.2 in
      let y = terminal_of w.k w.below w.of w.there in
      let e = same_truth (adds_once lawful (component_attribute_5 y.2) (component_attribute_5 (component_4 h a))) in
      held.cells Writes.terminal T (in_room (component_task h).1) ∙ w.cell ∙ y.3 ∙ ap answer e

  no_terminal : {T : ℕ} → T < 32 → ((P : ℕ) (b : Bool) → ¬ SetComponentAttribute g T P (Structure.terminal b)) → get_or f (72 + T) 0 ≡ 0
  no_terminal {T} l n =
      held.cells Writes.terminal T l
      ∙ unwritten (λ k. plan_f s k Writes.terminal T) (λ k. eqb (s.kind k) “terminal”) (λ k. child s k) (λ k. s.flag k) T refl (λ k. write_terminal s T k) s.count
      (λ k u e z. let y = terminal_of k u e z in n y.0 y.1 y.2)

  pub tasks_told : TasksTold g f
  tasks_told = record {
    number = number;
    class = class;
    parent = parent;
    no_parent = no_parent;
    confirmatory = confirmatory;
    no_confirmatory = no_confirmatory;
    trigger = trigger;
    no_trigger = no_trigger;
    terminal = terminal;
    no_terminal = no_terminal;
  }
