-- Rows of components and of their attributes: from the component to its row, and back; each with the task that it names. By the names of lawful guidelines.
use Rattle.std.specs.Prelude.{ℕ, suc, ◌-◌, ◌<◌, ◌≡◌, refl, Bool, true, false, List, [], ◌∷◌, eqb}
use Rattle.std.proofs.Common.{sym, ap, subst, ◌∙◌, eqb-true, eq-eqb}
use Rattle.std.proofs.Math.Option.{Option}
use Rattle.paper_expressions.specs.View.{At, at_later}
use Rattle.paper_expressions.proofs.Laws.Search.{at_one, sameb, same_reflects, Looked, found, missing, looked}
use Rattle.paper_tokens.specs.Tokens.{“=”, “component”, “caption”, “description”, “mandatory”}
use Rattle.paper_grammar.proofs.Laws.Ll.{is_in}
use Rattle.paper_expressions.proofs.Laws.Tests.{contra}
use Rattle.paper_guideline.specs.Structure
use Structure.{Placed, ComponentAttribute, SourceAttribute, Attribute, class_word, Task, TopLevel, tasks}
use Rattle.paper_guideline.specs.Parts.{Component, components_of}
use Rattle.paper_guideline.specs.Names.{Names, component_of_no_task}
use Rattle.paper_rows.specs.Load.{InstantiateComponent, task_5}
use Rattle.paper_rows.proofs.Laws.Lists.{each_at}
use Rattle.paper_rows.proofs.Laws.Lawful.{Lawful, defined}
use Rattle.parts.specs.Part.{Table}
use Rattle.guideline_rows.specs.Rows
use Rows.{Row, component_row, source_row, attribute_rows, flatten, kind-of, name_of}
use Rattle.row_names.specs.Pieces.{piece_at}
use Rattle.row_names.specs.Sheet.{head_kind}
use Rattle.row_names.specs.Flat.{own_rows, placed_at}
use Rattle.row_names.specs.Owners.{component_is, is_component}
use Rattle.plan.specs.Writes.{Outline, tasks_before, task_row, task_named, child}
use Rattle.plan_rows.specs.Owned.{first_row, rows_first, owned_of, owned_row}
use Rattle.plan_rows.specs.Seen.{Inner, component_inner, source_inner, assigned_inner, OfComponent, inner_kind, inner_seen}
use Rattle.plan_rows.specs.Reads.{Reads}
use Rattle.plan_rows.specs.ReadLaws.{row_of, below, tasks_owned, child_owned, task_found}
use Rattle.plan_rows.specs.Words.{only_component, word_at, word_row}

-- the kinds of a source's attributes
abbrev source_kind : ℕ → Bool
source_kind k = is_in k (“caption” ∷ “description” ∷ “mandatory” ∷ [])

source_kinds : (p : ℕ) (x : SourceAttribute) → source_kind (kind-of (source_row p x)) ≡ true
source_kinds p (Structure.source_generic (Structure.caption x)) = refl
source_kinds p (Structure.source_generic (Structure.description x)) = refl
source_kinds p (Structure.mandatory b) = refl

module _ {g : List TopLevel} {s : Outline} {p : Table} (lawful : Lawful g) (reads : Reads s p g) where
  -- the task that a component names
  pub named_task : {P k : ℕ} {t : Task} {a : Component} → At (tasks g) P t → At (components_of t) k a → (T : ℕ) × InstantiateComponent g P a T
  named_task {P} {k} {t} {a} h q = go (looked (λ (u : Task). Names a u) (λ (u : Task). sameb a.named.spelt u.named.spelt) (λ u. same_reflects a.named.spelt u.named.spelt) (tasks g))
    where
      go : {o : Option ℕ} → Looked (λ (u : Task). Names a u) (tasks g) o → (T : ℕ) × InstantiateComponent g P a T
      go (found {i} u e) = (i, task_5 (lawful.reached h) q u e)
      go (missing m) = absurd (lawful.names _ (component_of_no_task (each_at components_of h q).1 m))

  -- found by its name
  pub named_as : {P T : ℕ} {a : Component} (v : List ℕ) → InstantiateComponent g P a T → v ≡ a.named.spelt → task_named s v ≡ T
  named_as v (task_5 i q j e) z = (task_found reads lawful v j (z ∙ e)).0

  pub class_as : {P T : ℕ} {a : Component} (v : List ℕ) → InstantiateComponent g P a T → v ≡ a.named.spelt → {t : Task} → At (tasks g) T t → s.kind (task_row s v) ≡ class_word t.class
  class_as v (task_5 i q j e) z h = (task_found reads lawful v j (z ∙ e)).1 ∙ ap (λ (k : Task). class_word k.class) (at_one j h)

  -- ---- the row of a component

  pub record AComponent (q : ℕ) : Type 0 where
    pub P : ℕ
    pub T : ℕ
    pub a : Component
    pub its : InstantiateComponent g P a T
    pub spelt : s.spelt q ≡ a.named.spelt
    pub plan : tasks_before s q ≡ suc P

  pub component_seen : (q : ℕ) → q < s.count → eqb (s.kind q) “component” ≡ true → AComponent q
  component_seen q l e =
      let x = (word_at reads “component” q l e refl refl refl).1 in
      let o = only_component x.b.what x.word in
      let m = is_component x.t o.0 o.1 (piece_at x.owned.piece) o.2 in
      let n = named_task x.owned.stands.at m.1 in
      record {
        P = x.T;
        T = n.0;
        a = record { named = o.0; attributes = o.1 };
        its = n.1;
        spelt = reads.spelt (word_row reads x) (ap (λ (z : Attribute). name_of (first_row x.b.word z)) o.2);
        plan = tasks_owned reads x.owned;
      }

  pub component_row_of : {P T : ℕ} {a : Component} → InstantiateComponent g P a T → (q : ℕ) × (q < s.count) × (eqb (s.kind q) “component” ≡ true) × (task_named s (s.spelt q) ≡ T)
  component_row_of {a = a} (task_5 {p = t} i q j e) =
      let c = component_is t {c = a} q in
      let o = owned_of g (defined i) (piece_at c.piece) (rows_first c.element.word c.element.what) in
      let r = owned_row o.1 in (
        o.0,
        below reads r,
        eq-eqb (s.kind o.0) “component” (reads.kind r ∙ ap (λ (z : Attribute). kind-of (first_row c.element.word z)) c.is),
        named_as (s.spelt o.0) (task_5 i q j e) (reads.spelt r (ap (λ (z : Attribute). name_of (first_row c.element.word z)) c.is)),
      )

  -- ---- the row of an attribute of a component

  pub record InComponent (q : ℕ) : Type 0 where
    pub P : ℕ
    pub T : ℕ
    pub a : Component
    pub its : InstantiateComponent g P a T
    pub i : ℕ
    pub x : Placed ComponentAttribute
    pub at : At a.attributes i x
    pub row : At (flatten g) q (component_row x.word x.what)
    pub child : child s q ≡ T

  of_component : {q : ℕ} {r : Row} → OfComponent g q r → InComponent q
  of_component {q} c =
      let m = is_component c.t c.n c.xs (piece_at c.owned.piece) c.is in
      let n = named_task c.owned.stands.at m.1 in
      record {
        P = c.T;
        T = n.0;
        a = record { named = c.n; attributes = c.xs };
        its = n.1;
        i = c.i;
        x = c.x;
        at = c.at;
        row = subst (λ (z : Row). At (flatten g) q z) c.row (owned_row c.owned);
        child = child_owned reads c.owned c.is ∙ named_as c.n.spelt n.1 refl;
      }

  pub in_component_seen : (w q : ℕ) → q < s.count → eqb (s.kind q) w ≡ true → inner_kind w ≡ true → head_kind w ≡ false → source_kind w ≡ false → eqb w “=” ≡ false → InComponent q
  in_component_seen w q l e a b c d =
      let r = row_of reads q l in
      let k = sym (reads.kind r.1) ∙ eqb-true (s.kind q) w e in
      go k (inner_seen g r.1 (ap inner_kind k ∙ a) (ap head_kind k ∙ b))
    where
      go : {r : Row} → kind-of r ≡ w → Inner g q r → InComponent q
      go k (component_inner x) = of_component x
      go k (source_inner x) = contra (sym (ap source_kind (sym (ap kind-of x.row) ∙ k) ∙ c) ∙ source_kinds x.x.word x.x.what)
      go k (assigned_inner x) = contra (sym d ∙ ap (λ (z : ℕ). eqb z “=”) (sym k ∙ ap kind-of x.row))

  pub in_component_of : {P T i : ℕ} {a : Component} {x : Placed ComponentAttribute} → InstantiateComponent g P a T → At a.attributes i x
      → (q : ℕ) × At (flatten g) q (component_row x.word x.what) × (child s q ≡ T)
  in_component_of {i = k} {a = a} {x} (task_5 {p = t} i q j e) h =
      let c = component_is t {c = a} q in
      let r : At (own_rows c.element) (suc k) (component_row x.word x.what) =
      subst (λ (z : Attribute). At (attribute_rows c.element.word z) (suc k) (component_row x.word x.what)) (sym c.is) (at_later (placed_at component_row h)) in
      let o = owned_of g (defined i) (piece_at c.piece) r in
      (o.0, owned_row o.1, child_owned reads o.1 c.is ∙ named_as a.named.spelt (task_5 i q j e) refl)
