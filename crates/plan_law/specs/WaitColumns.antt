-- Law: the marks that the rows write say who waits for whom. By the row of each schedule constraint.
use Rattle.std.specs.Prelude.{ℕ, ◌≤◌, ◌<◌, ◌≡◌, refl, Bool, true, ◌&&◌, List, eqb, length}
use Rattle.std.proofs.Common.{arith, sym, ap, subst, ◌∙◌, eqb-true, eq-eqb}
use Rattle.std.proofs.Math.Option.{Option}
use Rattle.paper_expressions.specs.View.{At}
use Rattle.paper_expressions.proofs.Laws.Tests.{and_l, and_r, both}
use Rattle.paper_expressions.proofs.Laws.Search.{sameb, same_reflects, Looked, found, missing, looked}
use Rattle.paper_tokens.specs.Tokens.{“schedule-constraint”}
use Rattle.paper_guideline.specs.Structure
use Structure.{Name, ComponentAttribute, schedule_constraint, TopLevel, tasks}
use Rattle.paper_guideline.specs.Parts.{Component, components_of}
use Rattle.paper_guideline.specs.Names.{constraint_on_none}
use Rattle.paper_rows.specs.Load.{InstantiateComponent, task_5}
use Rattle.paper_rows.proofs.Laws.Lists.{at_below}
use Rattle.paper_rows.proofs.Laws.Lawful.{Lawful, defined}
use Rattle.parts.specs.Part.{Table}
use Rattle.guideline_rows.specs.Rows.{component_row, kind-of, name_of}
use Rattle.waits.specs.Twins.{marked, waiting}
use Rattle.plan.specs.Writes as Writes
use Writes.{Outline, waits_f, waits, task_named, child}
use Rattle.plan.specs.Filled.{Marked}
use Rattle.plan_told.specs.Told.{Constrained, WaitsTold}
use Rattle.plan_told.proofs.RowLaws.{component_task}
use Rattle.plan_rows.specs.Reads.{Reads}
use Rattle.plan_rows.specs.ReadLaws.{below}
use Rattle.plan_rows.specs.Components.{named_task, named_as, in_component_seen, in_component_of}
use Rattle.plan_law.specs.Written.{marked_by, marks}

only_constraint : (p : ℕ) (c : ComponentAttribute) → kind-of (component_row p c) ≡ “schedule-constraint” → (n : Name) × (c ≡ schedule_constraint n)
only_constraint p (schedule_constraint n) e = (n, refl)
only_constraint p (Structure.terminal b) e = absurd (omega arith)

module _ {g : List TopLevel} {s : Outline} {p : Table} {w : List (List Bool)} (lawful : Lawful g) (few : length (tasks g) ≤ 32) (reads : Reads s p g) (marked_as : Marked (waits s) w) where
  -- the row k says that T waits for A
  abbrev says : ℕ → ℕ → ℕ → Bool
  says T A k = eqb (s.kind k) “schedule-constraint” && (eqb (child s k) T && eqb (task_named s (s.spelt k)) A)

  -- the component that a schedule constraint names
  named_component : {P T i v : ℕ} {a : Component} {n : Name} → InstantiateComponent g P a T → At a.attributes i (record { word = v; what = schedule_constraint n }) → (A : ℕ) × (b : Component) × InstantiateComponent g P b A × (n.spelt ≡ b.named.spelt)
  named_component {P} {n = n} (task_5 {p = t} i q j e) h = go (looked (λ (b : Component). n.spelt ≡ b.named.spelt) (λ (b : Component). sameb n.spelt b.named.spelt) (λ b. same_reflects n.spelt b.named.spelt) (components_of t))
    where
      go : {o : Option ℕ} → Looked (λ (b : Component). n.spelt ≡ b.named.spelt) (components_of t) o → (A : ℕ) × (b : Component) × InstantiateComponent g P b A × (n.spelt ≡ b.named.spelt)
      go (found {x = b} u z) = let m = named_task lawful reads (defined i) u in (m.0, b, m.1, z)
      go (missing m) = absurd (lawful.names _ (constraint_on_none (defined i) q h m))

  in_room : {P T : ℕ} {a : Component} → InstantiateComponent g P a T → T < 32
  in_room h = let l = at_below (component_task h).1 in omega arith

  marked_if : {T A : ℕ} → Constrained g T A → marked (waiting w T) A ≡ true
  marked_if {T} {A} c =
      let x = in_component_of lawful reads {x = record { word = c.word; what = schedule_constraint c.named }} c.its c.at in
      let n = named_as lawful reads (s.spelt x.0) c.other (reads.spelt x.1 refl ∙ sym c.names) in
      marked_as.marks T A (in_room c.its) (in_room c.other)
      ∙ marks (λ k. waits_f s k T A) (says T A) refl (λ k. refl) s.count (below reads x.1)
      (both (eqb (s.kind x.0) “schedule-constraint”) (eqb (child s x.0) T && eqb (task_named s (s.spelt x.0)) A) (eq-eqb (s.kind x.0) “schedule-constraint” (reads.kind x.1))
      (both (eqb (child s x.0) T) (eqb (task_named s (s.spelt x.0)) A) (eq-eqb (child s x.0) T x.2) (eq-eqb (task_named s (s.spelt x.0)) A n)))

  constrained : {T A : ℕ} (k : ℕ) → k < s.count → eqb (s.kind k) “schedule-constraint” ≡ true → child s k ≡ T → task_named s (s.spelt k) ≡ A → Constrained g T A
  constrained {T} {A} k l e u v =
      let y = in_component_seen lawful reads “schedule-constraint” k l e refl refl refl refl in
      let o = only_constraint y.x.word y.x.what (sym (reads.kind y.row) ∙ eqb-true (s.kind k) “schedule-constraint” e) in
      let at : At y.a.attributes y.i (record { word = y.x.word; what = schedule_constraint o.0 }) =
      subst (λ (c : ComponentAttribute). At y.a.attributes y.i (record { word = y.x.word; what = c })) o.1 y.at in
      let b = named_component y.its at in
      let n : s.spelt k ≡ b.1.named.spelt = reads.spelt y.row (ap (λ (c : ComponentAttribute). name_of (component_row y.x.word c)) o.1) ∙ b.3 in
      let z : b.0 ≡ A = sym (named_as lawful reads (s.spelt k) b.2 n) ∙ v in
      record {
        P = y.P;
        a = y.a;
        b = b.1;
        its = subst (λ (i : ℕ). InstantiateComponent g y.P y.a i) (sym y.child ∙ u) y.its;
        k = y.i;
        word = y.x.word;
        named = o.0;
        at = at;
        other = subst (λ (i : ℕ). InstantiateComponent g y.P b.1 i) z b.2;
        names = sym b.3;
      }

  if_marked : {T A : ℕ} → T < 32 → A < 32 → marked (waiting w T) A ≡ true → Constrained g T A
  if_marked {T} {A} l u e =
      let r = marked_by (λ k. waits_f s k T A) (says T A) refl (λ k. refl) s.count (sym (marked_as.marks T A l u) ∙ e) in
      let k = r.0 in
      let a = and_l (eqb (s.kind k) “schedule-constraint”) (eqb (child s k) T && eqb (task_named s (s.spelt k)) A) r.2 in
      let b = and_r (eqb (s.kind k) “schedule-constraint”) (eqb (child s k) T && eqb (task_named s (s.spelt k)) A) r.2 in
      constrained k r.1 a (eqb-true (child s k) T (and_l (eqb (child s k) T) (eqb (task_named s (s.spelt k)) A) b))
      (eqb-true (task_named s (s.spelt k)) A (and_r (eqb (child s k) T) (eqb (task_named s (s.spelt k)) A) b))

  pub waits_told : WaitsTold g w
  waits_told = record { marked_if = marked_if; if_marked = if_marked }
