-- Law: what the plan says of who waits for whom is what the rows antecedent_tasks hold. By induction on the constraints of a component.
use Rattle.std.specs.Prelude.{ℕ, suc, ◌<◌, ◌≤◌, ◌≡◌, refl, Bool, true, List, [], ◌∷◌, length}
use Rattle.std.proofs.Common.{arith, sym, subst, ◌∙◌}
use Rattle.paper_expressions.specs.View.{At, at_first, at_later}
use Rattle.paper_guideline.specs.Structure
use Structure.{Name, Placed, ComponentAttribute, schedule_constraint, TopLevel, tasks}
use Rattle.paper_guideline.specs.Parts as Parts
use Rattle.paper_rows.specs.Table
use Table.{task, Component, ◌№◌, components_are, Table, Contains}
use Rattle.paper_rows.specs.Load
use Load.{InstantiateComponent, task_5, Antecedents, antecedents_none, antecedents_more, antecedents_other, Adds, component_attribute_1}
use Rattle.paper_rows.proofs.Laws.Lists.{no_element, at_below}
use Rattle.paper_rows.proofs.Laws.Lawful.{Lawful, defined}
use Rattle.paper_rows.proofs.Laws.SingleLaws.{task_once}
use Rattle.paper_rows.proofs.Laws.InitialLaws.{its_antecedents}
use Rattle.paper_engine.proofs.Laws.Kept.{Kept, adds, has}
use Rattle.waits.specs.Twins.{marked, waiting}
use Rattle.waits.specs.Worked.{Waits}
use Rattle.plan_told.specs.Told.{WaitsTold}
use Rattle.plan_told.proofs.RowLaws.{component_task}

-- a constraint, and the component that it names
record Names (g : List TopLevel) (P : ℕ) (l : List (Placed ComponentAttribute)) (A : ℕ) : Type 0 where
  pub k : ℕ
  pub word : ℕ
  pub named : Name
  pub at : At l k (record { word = word; what = schedule_constraint named })
  pub b : Parts.Component
  pub other : InstantiateComponent g P b A
  pub names : b.named.spelt ≡ named.spelt

names_later : {g : List TopLevel} {P A : ℕ} {x : Placed ComponentAttribute} {l : List (Placed ComponentAttribute)} → Names g P l A → Names g P (x ∷ l) A
names_later n = record { k = suc n.k; word = n.word; named = n.named; at = at_later n.at; b = n.b; other = n.other; names = n.names }

antecedent_of : {g : List TopLevel} {P i : ℕ} {l : List (Placed ComponentAttribute)} {ts : List Component} {c : Component} → Antecedents g P l ts → At ts i c → (A : ℕ) × (c ≡ task № A) × Names g P l A
antecedent_of antecedents_none h = absurd (no_element h)
antecedent_of (antecedents_more {c} {w} {n} {b} i e h) at_first = (c, refl, record { k = 0; word = w; named = n; at = at_first; b = b; other = i; names = e })
antecedent_of (antecedents_more i e h) (at_later q) = let r = antecedent_of h q in (r.0, r.1, names_later r.2)
antecedent_of (antecedents_other h) q = let r = antecedent_of h q in (r.0, r.1, names_later r.2)

-- the task of a constraint, in the sequence
record InSequence (g : List TopLevel) (P : ℕ) (n : Name) (ts : List Component) : Type 0 where
  pub i : ℕ
  pub A : ℕ
  pub b : Parts.Component
  pub at : At ts i (task № A)
  pub its : InstantiateComponent g P b A
  pub names : b.named.spelt ≡ n.spelt

of_antecedent : {g : List TopLevel} {P k w : ℕ} {n : Name} {l : List (Placed ComponentAttribute)} {ts : List Component} → Antecedents g P l ts → At l k (record { word = w; what = schedule_constraint n }) → InSequence g P n ts
of_antecedent antecedents_none h = absurd (no_element h)
of_antecedent (antecedents_more {c} {b} i e h) at_first = record { i = 0; A = c; b = b; at = at_first; its = i; names = e }
of_antecedent (antecedents_more i e h) (at_later q) = let r = of_antecedent h q in record { i = suc r.i; A = r.A; b = r.b; at = at_later r.at; its = r.its; names = r.names }
of_antecedent (antecedents_other h) (at_later q) = of_antecedent h q

waits_by : {g : List TopLevel} {T : ℕ} {l : List Component} → Adds g (task № T) Table.antecedent_tasks (components_are l) → (P : ℕ) × (a : Parts.Component) × InstantiateComponent g P a T × Antecedents g P a.attributes l
waits_by (component_attribute_1 {p} {a} h u) = (p, a, h, u)

module _ {g : List TopLevel} {w : List (List Bool)} {t : Table} (lawful : Lawful g) (few : length (tasks g) ≤ 32) (told : WaitsTold g w) (kept : Kept g t) where
  -- a component of one plan by its name
  named_once : {P A B : ℕ} {a b : Parts.Component} → InstantiateComponent g P a A → InstantiateComponent g P b B → a.named.spelt ≡ b.named.spelt → A ≡ B
  named_once (task_5 i h j e) (task_5 i' h' j' e') q = task_once lawful j j' (sym e ∙ q ∙ e')

  antecedents : {P T : ℕ} {a : Parts.Component} → InstantiateComponent g P a T → (l : List Component) × Antecedents g P a.attributes l
  antecedents (task_5 i q j e) = (_, its_antecedents lawful (defined i) q)

  of : (T : ℕ) {l : List Component} {i : ℕ} {c : Component} → Contains t (task № T) Table.antecedent_tasks (components_are l) → At l i c → (A : ℕ) × (A < 32) × (c ≡ task № A) × (marked (waiting w T) A ≡ true)
  of T h q =
      let k = waits_by (adds kept (λ x. elim x [ ]) h) in
      let r = antecedent_of k.3 q in
      let n = r.2 in
      let l = at_below (component_task n.other).1 in (
        r.0,
        omega arith,
        r.1,
        told.marked_if (record { P = k.0; a = k.1; b = n.b; its = k.2; k = n.k; word = n.word; named = n.named; at = n.at; other = n.other; names = n.names }),
      )

  row : {P T : ℕ} {a : Parts.Component} (l : List Component) {i : ℕ} {c : Component} → InstantiateComponent g P a T → Antecedents g P a.attributes l → At l i c → Contains t (task № T) Table.antecedent_tasks (components_are l)
  row [] h u q = absurd (no_element q)
  row (x ∷ l) h u q = has kept (λ x. elim x [ ]) (component_attribute_1 h u)

  all : (T : ℕ) {A : ℕ} → T < 32 → A < 32 → marked (waiting w T) A ≡ true → (l : List Component) × (i : ℕ) × Contains t (task № T) Table.antecedent_tasks (components_are l) × At l i (task № A)
  all T {A} l u m =
      let c = told.if_marked l u m in
      let s = antecedents c.its in
      let r = of_antecedent s.1 c.at in
      let e = named_once r.its c.other (r.names ∙ sym c.names) in
      let q : At s.0 r.i (task № A) = subst (λ (z : ℕ). At s.0 r.i (task № z)) e r.at in
      (s.0, r.i, row s.0 c.its s.1 q, q)

  pub waits : (T : ℕ) → T < 32 → Waits (waiting w T) (t (task № T) Table.antecedent_tasks)
  waits T l = record { of = λ h q. of T h q; all = λ u m. all T l u m }
