-- Law: a row of a guideline breaks a rule on names exactly where section 6 and document 01 say so (`to_row`, `from_row`).
-- By the rows of tasks, items, components, sources and assignments, both ways.
use Rattle.std.specs.Prelude.{ℕ, zero, suc, ◌+◌, ◌-◌, ◌≤◌, ◌<◌, ◌≡◌, refl, Bool, true, false, cond, ◌||◌, not, ◌⊎◌, List, [], ◌∷◌, ◌++◌, map, eqb, length}
use Rattle.std.proofs.Common.{sym, ap, subst, ◌∙◌, inl, inr, ⊎_elim, arith, eqb-true, eq-eqb}
use Rattle.std.proofs.Math.Option.{Option, none, some}
use Rattle.std.proofs.Math.Decide.{dec_lt}
use Rattle.paper_expressions.specs.Bytes.{folded, Alike}
use Rattle.paper_expressions.specs.View.{At, at_first, at_later}
use Rattle.paper_expressions.proofs.Laws.Tests.{contra, two, not_both}
use Rattle.paper_expressions.proofs.Laws.Search.{no_clash, at_one}
use Rattle.parts.specs.ItemLaws.{at_index, index_of}
use Rattle.paper_tokens.specs.Tokens
use Tokens.{“plan”, “action”, “enquiry”, “data”, “=”, “caption”, “component”, “source”, “schedule-constraint”}
use Rattle.paper_guideline.specs.Structure
use Structure.{Name, Placed, Assignment, ComponentAttribute, schedule_constraint, terminal, Generic, caption, description, SourceAttribute}
use Structure.{Attribute, generic, precondition, wait_condition, terminate, postcondition, trigger, component, source, Task, DataItem, TopLevel, task, data_item, tasks, data_items}
use Rattle.paper_guideline.specs.Parts.{assignments, Component, components_of, components, Source, sources}
use Rattle.paper_guideline.specs.Names as Names
use Rattle.guideline_rows.specs.Rows
use Rows.{Row, with_name, generic_row, component_row, source_row, placed_rows, attribute_rows, attributes_rows, flatten, kind-of, name_of}
use Rattle.row_names.specs.Pieces.{Piece, piece_at, in_whole, Located}
use Rattle.row_names.specs.Selected.{Kept, kept_here, rise, rank_rise}
use Rattle.row_names.specs.Shape.{Shaped}
use Rattle.row_names.specs.Sheet
use Sheet.{Sheet, task_kind, head_kind, once, Of, Same, Clear, Holds, Own, Beside, Reached, the_root, by_component, Flaw, Bad, flawed, unreached, spot}
use Sheet.{task_again, item_again, attribute_again, component_of_none, component_of_root, component_again, constraint_of_itself, constraint_of_none, target_of_none, source_of_none}
use Rattle.row_names.specs.Flat
use Flat.{body, top_rows, own_rows, attributes_each, at_placed, placed_at, sub_kind, Sub, placed_sub, component_sub, source_sub, named_kind, is_data, is_word, of_kind, of_kind_some, class_task, body_inside, head_row}
use Flat.{task-names, item-names, component_names, source_names, target_names}
use Rattle.row_names.specs.Agreement
use Agreement.{Agrees, in_list, top_of, RowOf, row_of, one_row, one_rank, thing_row, Thing, row_thing, Stand, stand_of, row_at, inside_sheet}
use Rattle.row_names.proofs.AttributeLaw as AttributeLaw
use Rattle.row_names.specs.Owners
use Owners.{In, component_is, is_component, component_task, component_all, own_of, head_at, head_there, body_at, plain, InBody, in_body, generic_kind, generic_word}

-- ---- rows of components and of their schedule constraints

sub_no : {r : Row} {w : ℕ} {P : Type 0} → Sub r → kind-of r ≡ w → sub_kind w ≡ false → P
sub_no h e n = contra (sym n ∙ subst (λ (k : ℕ). sub_kind k ≡ true) e h.kind)

pub record AComponent (a : Attribute) (m : ℕ) (r : Row) : Type 0 where
  pub n : Name
  pub xs : List (Placed ComponentAttribute)
  pub is : a ≡ component n xs
  pub first : m ≡ 0
  pub name : name_of r ≡ some n

pub component_only : (p : ℕ) (a : Attribute) {m : ℕ} {r : Row} → At (attribute_rows p a) m r → kind-of r ≡ “component” → AComponent a m r
component_only p (generic (caption x)) at_first e = absurd (omega arith)
component_only p (generic (description x)) at_first e = absurd (omega arith)
component_only p (precondition x) at_first e = absurd (omega arith)
component_only p (wait_condition x) at_first e = absurd (omega arith)
component_only p (terminate x) at_first e = absurd (omega arith)
component_only p (postcondition xs) at_first e = absurd (omega arith)
component_only p (postcondition xs) (at_later h) e = absurd (assigned_kind xs h e)
  where
    assigned_kind : (xs : List Assignment) {m : ℕ} {r : Row} → At (map Rows.an_assignment xs) m r → ¬ (kind-of r ≡ “component”)
    assigned_kind (x ∷ xs) at_first q = omega arith
    assigned_kind (x ∷ xs) (at_later k) q = assigned_kind xs k q
    assigned_kind [] {m = m} x7 q = elim x7 [ ]
component_only p (trigger n) at_first e = absurd (omega arith)
component_only p (component n xs) at_first e = record { n = n; xs = xs; is = refl; first = refl; name = refl }
component_only p (component n xs) (at_later h) e = sub_no (placed_sub component_row component_sub xs h) e refl
component_only p (source n xs) at_first e = absurd (omega arith)
component_only p (source n xs) (at_later h) e = sub_no (placed_sub source_row source_sub xs h) e refl
component_only p (generic (caption x)) {r = r} (at_later {i = i} h) e = elim h [ ]
component_only p (generic (description x)) {r = r} (at_later {i = i} h) e = elim h [ ]
component_only p (precondition x) {r = r} (at_later {i = i} h) e = elim h [ ]
component_only p (wait_condition x) {r = r} (at_later {i = i} h) e = elim h [ ]
component_only p (terminate x) {r = r} (at_later {i = i} h) e = elim h [ ]
component_only p (trigger n) {r = r} (at_later {i = i} h) e = elim h [ ]

pub record AConstraint (a : Attribute) (m : ℕ) (r : Row) : Type 0 where
  pub n : Name
  pub xs : List (Placed ComponentAttribute)
  pub l : ℕ
  pub w : ℕ
  pub on : Name
  pub is : a ≡ component n xs
  pub at : At xs l (record { word = w; what = schedule_constraint on })
  pub index : m ≡ suc l
  pub name : name_of r ≡ some on

constraint_in : (n : Name) (xs : List (Placed ComponentAttribute)) (l : ℕ) (x : Placed ComponentAttribute) {r : Row} → At xs l x → r ≡ component_row x.word x.what
    → kind-of r ≡ “schedule-constraint” → AConstraint (component n xs) (suc l) r
constraint_in n xs l x {r} h e k = go x.what refl
  where
    go : (c : ComponentAttribute) → x.what ≡ c → AConstraint (component n xs) (suc l) r
    go (schedule_constraint o) q = record {
      n = n;
      xs = xs;
      l = l;
      w = x.word;
      on = o;
      is = refl;
      at = subst (λ (z : ComponentAttribute). At xs l (record { word = x.word; what = z })) q h;
      index = refl;
      name = ap name_of e ∙ ap (λ (z : ComponentAttribute). name_of (component_row x.word z)) q;
    }
    go (terminal b) q = absurd (let z = sym (ap kind-of e ∙ ap (λ (c : ComponentAttribute). kind-of (component_row x.word c)) q) ∙ k in omega arith)

pub constraint_only : (p : ℕ) (a : Attribute) {m : ℕ} {r : Row} → At (attribute_rows p a) m r → kind-of r ≡ “schedule-constraint” → AConstraint a m r
constraint_only p (generic (caption x)) at_first e = absurd (omega arith)
constraint_only p (generic (description x)) at_first e = absurd (omega arith)
constraint_only p (precondition x) at_first e = absurd (omega arith)
constraint_only p (wait_condition x) at_first e = absurd (omega arith)
constraint_only p (terminate x) at_first e = absurd (omega arith)
constraint_only p (postcondition xs) at_first e = absurd (omega arith)
constraint_only p (postcondition xs) (at_later h) e = absurd (assigned_kind xs h e)
  where
    assigned_kind : (xs : List Assignment) {m : ℕ} {r : Row} → At (map Rows.an_assignment xs) m r → ¬ (kind-of r ≡ “schedule-constraint”)
    assigned_kind (x ∷ xs) at_first q = omega arith
    assigned_kind (x ∷ xs) (at_later k) q = assigned_kind xs k q
    assigned_kind [] {m = m} x7 q = elim x7 [ ]
constraint_only p (trigger n) at_first e = absurd (omega arith)
constraint_only p (component n xs) at_first e = absurd (omega arith)
constraint_only p (component n xs) (at_later {i = i} h) e = let r = at_placed component_row xs h in constraint_in n xs i r.from r.at r.is e
constraint_only p (source n xs) at_first e = absurd (omega arith)
constraint_only p (source n xs) (at_later h) e = absurd (source_kind_no xs h e)
  where
    one : (p : ℕ) (x : SourceAttribute) → ¬ (kind-of (source_row p x) ≡ “schedule-constraint”)
    one p (Structure.source_generic (caption x)) q = omega arith
    one p (Structure.source_generic (description x)) q = omega arith
    one p (Structure.mandatory b) q = omega arith

    source_kind_no : (xs : List (Placed SourceAttribute)) {m : ℕ} {r : Row} → At (placed_rows source_row xs) m r → ¬ (kind-of r ≡ “schedule-constraint”)
    source_kind_no (x ∷ xs) at_first q = one x.word x.what q
    source_kind_no (x ∷ xs) (at_later k) q = source_kind_no xs k q
    source_kind_no [] {m = m} x7 q = elim x7 [ ]
constraint_only p (generic (caption x)) {r = r} (at_later {i = i} h) e = elim h [ ]
constraint_only p (generic (description x)) {r = r} (at_later {i = i} h) e = elim h [ ]
constraint_only p (precondition x) {r = r} (at_later {i = i} h) e = elim h [ ]
constraint_only p (wait_condition x) {r = r} (at_later {i = i} h) e = elim h [ ]
constraint_only p (terminate x) {r = r} (at_later {i = i} h) e = elim h [ ]
constraint_only p (trigger n) {r = r} (at_later {i = i} h) e = elim h [ ]

-- ---- kinds

pub task_has_name : (k : ℕ) → task_kind k ≡ true → (head_kind k || named_kind k) ≡ true
task_has_name k e = in_list (λ (z : ℕ). head_kind z || named_kind z) (“plan” ∷ “action” ∷ “enquiry” ∷ []) k refl e

pub task_not_once : (k : ℕ) → task_kind k ≡ true → once k ≡ false
task_not_once k e = let z = in_list (λ (z : ℕ). not (once z)) (“plan” ∷ “action” ∷ “enquiry” ∷ []) k refl e in
    ⊎_elim (λ h. not_both (once k) z h) (λ h. h) (two (once k))

pub word_has_name : (w k : ℕ) → (head_kind w || named_kind w) ≡ true → is_word w k ≡ true → (head_kind k || named_kind k) ≡ true
word_has_name w k h e = subst (λ (z : ℕ). (head_kind z || named_kind z) ≡ true) (sym (eqb-true k w e)) h

root_task : {g : List TopLevel} {t : Task} → At g 0 (task t) → At (tasks g) 0 t
root_task at_first = at_first

root_kept : {g : List TopLevel} {t : Task} → At g 0 (task t) → Kept (of_kind task_kind) (flatten g) 0 0 t.named
root_kept {t = t} at_first = kept_here (of_kind_some task_kind (head_row (task t)) (class_task t.class) refl)

in_tasks : {g : List TopLevel} {k : ℕ} {t : Task} → At g k (task t) → (i : ℕ) × At (tasks g) i t
in_tasks at_first = (0, at_first)
in_tasks (at_later {y = task u} h) = let r = in_tasks h in (suc r.0, at_later r.1)
in_tasks (at_later {y = data_item d} h) = in_tasks h

module _ (g : List TopLevel) (s : Sheet) (a : Agrees s (flatten g)) (shape : Shaped g) where
  named_spot : (j : ℕ) {p : ℕ} → once (s.kind j) ≡ false → s.place j ≡ p → p ≡ spot s j
  named_spot j e h = rw e (sym h)

  -- ---- the rows of things, and the things of rows

  task_row : {i : ℕ} {t : Task} → At (tasks g) i t → (j : ℕ) × RowOf g s a task_kind i j t.named
  task_row h = thing_row g s a task_kind (λ (t : Task). t.named) (tasks g) (task-names g) h

  item_row : {i : ℕ} {d : DataItem} → At (data_items g) i d → (j : ℕ) × RowOf g s a is_data i j d.named
  item_row h = thing_row g s a is_data (λ (d : DataItem). d.named) (data_items g) (item-names g) h

  component_row_of : {i : ℕ} {c : Component} → At (components g) i c → (j : ℕ) × RowOf g s a (is_word “component”) i j c.named
  component_row_of h = thing_row g s a (is_word “component”) (λ (c : Component). c.named) (components g) (component_names g) h

  source_row_of : {i : ℕ} {c : Source} → At (sources g) i c → (j : ℕ) × RowOf g s a (is_word “source”) i j c.named
  source_row_of h = thing_row g s a (is_word “source”) (λ (c : Source). c.named) (sources g) (source_names g) h

  target_row : {i : ℕ} {x : Assignment} → At (assignments g) i x → (j : ℕ) × RowOf g s a (is_word “=”) i j x.target
  target_row h = thing_row g s a (is_word “=”) (λ (x : Assignment). x.target) (assignments g) (target_names g) h

  pub row_task : (j : ℕ) → Sheet.Task s j → Thing g s a task_kind (λ (t : Task). t.named) (tasks g) (task-names g) task_has_name j
  row_task j h = row_thing g s a task_kind (λ (t : Task). t.named) (tasks g) (task-names g) task_has_name j h.0 h.1

  pub row_item : (j : ℕ) → Of s “data” j → Thing g s a is_data (λ (d : DataItem). d.named) (data_items g) (item-names g) (λ k e. word_has_name “data” k refl e) j
  row_item j h = row_thing g s a is_data (λ (d : DataItem). d.named) (data_items g) (item-names g) (λ k e. word_has_name “data” k refl e) j h.0 (eq-eqb (s.kind j) “data” h.1)

  row_component : (j : ℕ) → Of s “component” j → Thing g s a (is_word “component”) (λ (c : Component). c.named) (components g) (component_names g) (λ k e. word_has_name “component” k refl e) j
  row_component j h = row_thing g s a (is_word “component”) (λ (c : Component). c.named) (components g) (component_names g) (λ k e. word_has_name “component” k refl e) j h.0 (eq-eqb (s.kind j) “component” h.1)

  row_source : (j : ℕ) → Of s “source” j → Thing g s a (is_word “source”) (λ (c : Source). c.named) (sources g) (source_names g) (λ k e. word_has_name “source” k refl e) j
  row_source j h = row_thing g s a (is_word “source”) (λ (c : Source). c.named) (sources g) (source_names g) (λ k e. word_has_name “source” k refl e) j h.0 (eq-eqb (s.kind j) “source” h.1)

  row_target : (j : ℕ) → Of s “=” j → Thing g s a (is_word “=”) (λ (x : Assignment). x.target) (assignments g) (target_names g) (λ k e. word_has_name “=” k refl e) j
  row_target j h = row_thing g s a (is_word “=”) (λ (x : Assignment). x.target) (assignments g) (target_names g) (λ k e. word_has_name “=” k refl e) j h.0 (eq-eqb (s.kind j) “=” h.1)

  of_word : {w i j : ℕ} {n : Name} → RowOf g s a (is_word w) i j n → Of s w j
  of_word {w} {j = j} r = (r.below, eqb-true (s.kind j) w r.kind)

  word_spot : (w : ℕ) {i j : ℕ} {n : Name} → once w ≡ false → RowOf g s a (is_word w) i j n → n.place ≡ spot s j
  word_spot w {j = j} e r = named_spot j (ap once (of_word r).1 ∙ e) r.place

  pub task_of : {i j : ℕ} {n : Name} → RowOf g s a task_kind i j n → Sheet.Task s j
  task_of r = (r.below, r.kind)

  task_spot : {i j : ℕ} {n : Name} → RowOf g s a task_kind i j n → n.place ≡ spot s j
  task_spot {j = j} r = named_spot j (task_not_once (s.kind j) r.kind) r.place

  -- the root's row is the first
  pub root_row : RowOf g s a task_kind 0 0 shape.root.named
  root_row = row_of g s a task_kind (root_kept shape.first)

  stand_row : (j : ℕ) → Sheet.Task s j → (i : ℕ) × (t : Task) × At (tasks g) i t × Stand g i j t
  stand_row j h =
      let r = row_task j h in
      let p = stand_of g r.i r.thing r.at in
      (r.i, r.thing, r.at, subst (λ (z : ℕ). Stand g r.i z r.thing) (one_row g s a task_kind p.1.kept r.row.kept) p.1)

  -- ---- the components of one plan

  module _ {k j : ℕ} {t : Task} (p : Piece top_rows g k j (task t)) where
    -- where the rows of an attribute begin, in its task's
    own_body : {what : Attribute} (e : In t what) {m : ℕ} {r : Row} → At (attribute_rows e.element.word what) m r → At (body (task t)) (e.o + m) r
    own_body e {m} {r} h =
        subst (λ (l : List Row). At l (e.o + m) r) (sym (attributes_each t.attributes))
        (in_whole e.piece (subst (λ (z : Attribute). At (attribute_rows e.element.word z) m r) (sym e.is) h) (e.o + m) refl)

    pub before_end : {m : ℕ} {r : Row} → At (body (task t)) m r → suc (j + m) < j + length (top_rows (task t))
    before_end h = let z = index_of h in omega arith

    pub clear_to : {m : ℕ} {r : Row} → At (body (task t)) m r → (q : ℕ) → j < q → q ≤ suc (j + m) → head_kind (s.kind q) ≡ false
    clear_to h q l u = let z = before_end h in plain g s a p q l (omega arith)

    pub record PlanComponent (c : Component) (q : ℕ) : Type 0 where
      pub holds : Holds s j q
      pub spelt : s.spelt q ≡ c.named.spelt

    component_held : {m : ℕ} {c : Component} → At (components_of t) m c → (q : ℕ) × PlanComponent c q
    component_held {c = c} h =
        let e = component_is t h in
        let b : At (body (task t)) (e.o + 0) (with_name “component” e.element.word c.named) = own_body e at_first in
        let q = suc (j + (e.o + 0)) in
        let f = body_at g s a p b q refl in (
          q,
          record {
            holds = (omega arith, (inside_sheet g s a f, a.kind f), λ m l u. clear_to b m l (omega arith));
            spelt = a.spelt f refl;
          },
        )

    -- a row of a component in the plan's rows
    component_here : {m : ℕ} {r : Row} (q : ℕ) → At (body (task t)) m r → q ≡ suc (j + m) → s.kind q ≡ “component”
        → (n : ℕ) × (c : Component) × At (components_of t) n c × (s.spelt q ≡ c.named.spelt)
    component_here {r = r} q h e w =
        let f = body_at g s a p h q e in
        let o = own_of t h in
        let c = component_only o.element.word o.element.what o.at (sym (a.kind f) ∙ w) in
        let m = is_component t c.n c.xs (piece_at o.piece) c.is in
        (m.0, record { named = c.n; attributes = c.xs }, m.1, a.spelt f c.name)

    held_component : (q : ℕ) → Holds s j q → (n : ℕ) × (c : Component) × At (components_of t) n c × (s.spelt q ≡ c.named.spelt)
    held_component q h =
        let b = in_body g s a p q h.0 h.1.0 (λ m l u. below m l u) in
        component_here q b.at b.index h.1.1
      where
        below : (m : ℕ) → j < m → m ≤ q → head_kind (s.kind m) ≡ false
        below m l u = go (dec_lt m q)
          where
            go : Dec (m < q) → head_kind (s.kind m) ≡ false
            go (yes v) = h.2 m l v
            go (no v) = let e : m ≡ q = omega arith in ap head_kind (ap s.kind e ∙ h.1.1)

    -- ---- schedule constraints, in the rows of their component

    module _ {c : Component} (e : In t (component c.named c.attributes)) where
      own_attribute : {l : ℕ} {x : Placed ComponentAttribute} → At c.attributes l x → At (body (task t)) (e.o + suc l) (component_row x.word x.what)
      own_attribute h = own_body e (at_later (placed_at component_row h))

      own_word : At (body (task t)) (e.o + 0) (with_name “component” e.element.word c.named)
      own_word = own_body e at_first

      own_row : At (flatten g) (suc (j + (e.o + 0))) (with_name “component” e.element.word c.named)
      own_row = body_at g s a p own_word (suc (j + (e.o + 0))) refl

      module _ {l : ℕ} {x : Placed ComponentAttribute} (h : At c.attributes l x) where
        between_rows : (m : ℕ) → suc (j + (e.o + 0)) < m → m < suc (j + (e.o + suc l)) → (d : ℕ) × (y : Placed ComponentAttribute) × (d < l) × At c.attributes d y × (m ≡ suc (j + (e.o + suc d)))
        between_rows m u v =
            let n = index_of h in
            let d = m - suc (suc (j + (e.o + 0))) in
            let y = at_index c.attributes d (omega arith) in
            (d, y.0, omega arith, y.1, omega arith)

        owned : Own s (suc (j + (e.o + suc l))) (suc (j + (e.o + 0)))
        owned = (
          omega arith,
          (inside_sheet g s a own_row, a.kind own_row),
          λ m u v q. let b = between_rows m u v in
              let f = body_at g s a p (own_attribute b.3) m b.4 in
              sub_no (component_sub b.1.word b.1.what) (sym (a.kind f) ∙ q) refl,
        )

        only_owner : (q : ℕ) → Own s (suc (j + (e.o + suc l))) q → q ≡ suc (j + (e.o + 0))
        only_owner q o = go (dec_lt q (suc (j + (e.o + 0)))) (dec_lt (suc (j + (e.o + 0))) q)
          where
            go : Dec (q < suc (j + (e.o + 0))) → Dec (suc (j + (e.o + 0)) < q) → q ≡ suc (j + (e.o + 0))
            go (yes u) d = absurd (o.2 (suc (j + (e.o + 0))) u (omega arith) (a.kind own_row))
            go (no u) (yes v) = absurd (owned.2 q v o.0 o.1.1)
            go (no u) (no v) = omega arith

    beside_held : {m q d : ℕ} {r : Row} → At (body (task t)) m r → q ≡ suc (j + m) → Holds s j d → Beside s q d
    beside_held b e h = (h.1, λ l n u v. clear_to b n (let z = h.0 in omega arith) (omega arith), λ l n u v. h.2 n (omega arith) v)

    held_beside : {m q d : ℕ} {r : Row} → At (body (task t)) m r → q ≡ suc (j + m) → s.kind q ≡ “schedule-constraint” → Beside s q d → Holds s j d
    held_beside {m} {q} {d} b e w h = go (dec_lt d j) (dec_lt j d)
      where
        clear : j < d → (n : ℕ) → j < n → n < d → head_kind (s.kind n) ≡ false
        clear l n u v = side (dec_lt q n)
          where
            side : Dec (q < n) → head_kind (s.kind n) ≡ false
            side (yes z) = h.2 (omega arith) n z v
            side (no z) = clear_to b n u (omega arith)

        go : Dec (d < j) → Dec (j < d) → Holds s j d
        go (yes l) f = contra (sym (h.1 (omega arith) j l (omega arith)) ∙ head_there g s a p)
        go (no l) (yes u) = (u, h.0, clear u)
        go (no l) (no u) = let z : d ≡ j = omega arith in contra (sym (ap head_kind (ap s.kind (sym z) ∙ h.0.1)) ∙ head_there g s a p)

  -- the task that a constraint stands in
  record InTask (q : ℕ) (r : Row) : Type 0 where
    pub k : ℕ
    pub j : ℕ
    pub m : ℕ
    pub in_task : Task
    pub piece : Piece top_rows g k j (task in_task)
    pub at : At (body (task in_task)) m r
    pub index : q ≡ suc (j + m)

  constraint_task : (q : ℕ) {r : Row} → At (flatten g) q r → kind-of r ≡ “schedule-constraint” → InTask q r
  constraint_task q {r} h w = let f = top_of g h in go f.element f.piece f.at f.index
    where
      generic_no : (d : DataItem) {m : ℕ} → At (placed_rows generic_row d.attributes) m r → ⊥
      generic_no d b = let y = at_placed generic_row d.attributes b in one y.from.what (sym (generic_kind y.from.word y.from.what) ∙ sym (ap kind-of y.is) ∙ w)
        where
          one : (x : Generic) → ¬ (generic_word x ≡ “schedule-constraint”)
          one (caption x) e = omega arith
          one (description x) e = omega arith

      inner : (x : TopLevel) {k o m : ℕ} → Piece top_rows g k o x → At (body x) m r → q ≡ o + suc m → InTask q r
      inner (task t) {k} {o} {m} p b e = record { k = k; j = o; m = m; in_task = t; piece = p; at = b; index = omega arith }
      inner (data_item d) p b e = absurd (generic_no d b)

      go : (x : TopLevel) {k o m : ℕ} → Piece top_rows g k o x → At (top_rows x) m r → q ≡ o + m → InTask q r
      go x {m = zero} p b e = contra (sym (ap head_kind w) ∙ ap head_kind (ap kind-of (at_one b at_first)) ∙ Flat.head_is_head x)
      go x {m = suc m} p (at_later b) e = inner x p b e

  -- ---- reached from the root

  reach_to : {i : ℕ} → Names.Reached g i → {j : ℕ} {t : Task} → At (tasks g) i t → Stand g i j t → Reached s j
  reach_to Names.the_root h p = subst (Reached s) (one_row g s a task_kind root_row.kept p.kept) the_root
  reach_to (Names.by_component {c = c} r pa ca ta e) h p =
      let q = stand_of g _ _ pa in
      let x = component_held q.1.piece ca in
      let y = row_of g s a task_kind p.kept in
      let z = row_of g s a task_kind q.1.kept in
      let n = ap (λ (t : Task). t.named.spelt) (at_one ta h) in
      by_component (reach_to r pa q.1) (task_of z) x.1.holds (task_of y) (x.1.spelt ∙ e ∙ n ∙ sym y.spelt)

  reach_from : {j : ℕ} → Reached s j → {i : ℕ} {t : Task} → At (tasks g) i t → Stand g i j t → Names.Reached g i
  reach_from the_root h p = subst (Names.Reached g) (one_rank g s a task_kind root_row.kept p.kept) Names.the_root
  reach_from (by_component {i} {c = c} r ti hold tj e) h p =
      let q = stand_row i ti in
      let x = held_component q.3.piece c hold in
      let y = row_of g s a task_kind p.kept in
      Names.by_component (reach_from r q.2 q.3) q.2 x.2 h (sym x.3 ∙ e ∙ y.spelt)

  -- ---- the law, to the rows

  alike_rows : {x y z w : List ℕ} → x ≡ z → y ≡ w → Alike z w → Alike x y
  alike_rows e f h = ap folded e ∙ h ∙ sym (ap folded f)

  alike_names : {x y z w : List ℕ} → x ≡ z → y ≡ w → Alike x y → Alike z w
  alike_names e f h = sym (ap folded e) ∙ h ∙ ap folded f

  -- the row of a schedule constraint
  module _ {i j l w : ℕ} {t : Task} {c : Component} {n : Name} (h : At (tasks g) i t) (k : At (components_of t) j c)
      (x : At c.attributes l (record { word = w; what = schedule_constraint n })) where
    constraint_piece : (q : ℕ) × Stand g i q t
    constraint_piece = stand_of g i t h

    abbrev constraint_index : ℕ
    constraint_index = suc (constraint_piece.0 + ((component_is t k).o + suc l))

    constraint_body : At (body (task t)) ((component_is t k).o + suc l) (with_name “schedule-constraint” w n)
    constraint_body = own_attribute constraint_piece.1.piece {c = c} (component_is t k) x

    constraint_row : At (flatten g) constraint_index (with_name “schedule-constraint” w n)
    constraint_row = body_at g s a constraint_piece.1.piece constraint_body constraint_index refl

    constraint_of : Of s “schedule-constraint” constraint_index
    constraint_of = (inside_sheet g s a constraint_row, a.kind constraint_row)

    constraint_spot : n.place ≡ spot s constraint_index
    constraint_spot = named_spot constraint_index (ap once (a.kind constraint_row)) (a.place constraint_row refl)

    to_itself : n.spelt ≡ c.named.spelt → (q : ℕ) × Bad s q × (n.place ≡ spot s q)
    to_itself e =
        let p = constraint_piece.1.piece in (
          constraint_index,
          flawed (constraint_of_itself constraint_of (owned p {c = c} (component_is t k) x) (a.spelt constraint_row refl ∙ e ∙ sym (a.spelt (own_row p {c = c} (component_is t k)) refl))),
          constraint_spot,
        )

    to_none : ((m : ℕ) (d : Component) → At (components_of t) m d → ¬ (n.spelt ≡ d.named.spelt)) → (q : ℕ) × Bad s q × (n.place ≡ spot s q)
    to_none f =
        let p = constraint_piece.1.piece in (
          constraint_index,
          flawed (constraint_of_none constraint_of
              (λ d b e. let y = held_component p d (held_beside p constraint_body refl (a.kind constraint_row) b) in f y.0 y.1 y.2 (sym (a.spelt constraint_row refl) ∙ e ∙ y.3))),
          constraint_spot,
        )

  -- no component, not reached
  alone : {j : ℕ} {t : Task} → 0 < j → At (tasks g) j t → ((i : ℕ) (c : Component) → At (components g) i c → ¬ Names.Names c t) → ¬ Names.Reached g j
  alone l h f Names.the_root = omega arith
  alone l h f (Names.by_component {c = c} r pa ca ta e) =
      let k = component_all g pa ca in
      f k.0 c k.1 (e ∙ ap (λ (t : Task). t.named.spelt) (at_one ta h))

  to_unreached : {j : ℕ} {t : Task} → At (tasks g) j t → ¬ Names.Reached g j → (q : ℕ) × Bad s q × (t.named.place ≡ spot s q)
  to_unreached {j} {t} h f =
      let p = stand_of g j t h in
      let y = row_of g s a task_kind p.1.kept in
      (p.0, unreached (task_of y) (λ r. f (reach_from r h p.1)), task_spot y)

  pub to_row : {p : ℕ} → Names.NameBreach g p → (q : ℕ) × Bad s q × (p ≡ spot s q)
  to_row (Names.task_twice l h k e) =
      let x = task_row h in
      let y = task_row k in
      (y.0, flawed (task_again (rise (of_kind task_kind) x.1.kept y.1.kept l) (task_of x.1) (task_of y.1) (alike_rows x.1.spelt y.1.spelt e)), task_spot y.1)
  to_row (Names.data_item_twice l h k e) =
      let x = item_row h in
      let y = item_row k in
      (y.0, flawed (item_again (rise (of_kind is_data) x.1.kept y.1.kept l) (of_word x.1) (of_word y.1) (alike_rows x.1.spelt y.1.spelt e)), word_spot “data” refl y.1)
  to_row (Names.task_attribute_twice h f) = AttributeLaw.task_again g s a shape h f
  to_row (Names.component_attribute_twice h f) = AttributeLaw.component_again g s a shape h f
  to_row (Names.source_attribute_twice h f) = AttributeLaw.source_again g s a shape h f
  to_row (Names.data_attribute_twice h f) = AttributeLaw.data_again g s a shape h f
  to_row (Names.component_of_no_task h f) =
      let x = component_row_of h in
      (x.0, flawed (component_of_none (of_word x.1) (λ t k e. let y = row_task t k in f y.i y.thing y.at (sym x.1.spelt ∙ e ∙ y.row.spelt))), word_spot “component” refl x.1)
  to_row (Names.component_is_root h k e) =
      let x = component_row_of h in
      let n = ap (λ (t : Task). t.named.spelt) (at_one k (root_task shape.first)) in
      (x.0, flawed (component_of_root (of_word x.1) (x.1.spelt ∙ e ∙ n ∙ sym root_row.spelt)), word_spot “component” refl x.1)
  to_row (Names.component_twice l h k e) =
      let x = component_row_of h in
      let y = component_row_of k in
      (y.0, flawed (component_again (rise (of_kind (is_word “component”)) x.1.kept y.1.kept l) (of_word x.1) (of_word y.1) (x.1.spelt ∙ e ∙ sym y.1.spelt)), word_spot “component” refl y.1)
  to_row (Names.no_component l h f) = to_unreached h (alone l h f)
  to_row (Names.not_reached h f) = to_unreached h f
  to_row (Names.constraint_on_itself h k x e) = to_itself h k x e
  to_row (Names.constraint_on_none h k x f) = to_none h k x f
  to_row (Names.target_no_item h f) =
      let x = target_row h in
      (x.0, flawed (target_of_none (of_word x.1) (λ d k e. let y = row_item d k in f y.i y.thing y.at (alike_names x.1.spelt y.row.spelt e))), word_spot “=” refl x.1)
  to_row (Names.source_no_item h f) =
      let x = source_row_of h in
      (x.0, flawed (source_of_none (of_word x.1) (λ d k e. let y = row_item d k in f y.i y.thing y.at (sym x.1.spelt ∙ e ∙ y.row.spelt))), word_spot “source” refl x.1)

  -- ---- the law, from the rows

  at_spot : {q p : ℕ} → p ≡ q → Names.NameBreach g p → Names.NameBreach g q
  at_spot e b = subst (Names.NameBreach g) e b

  -- a schedule constraint's row, in its task and component
  module _ (q : ℕ) (h : Of s “schedule-constraint” q) where
    constraint_at : (r : Row) × At (flatten g) q r
    constraint_at = row_at g s a q h.0

    constraint_in_task : InTask q constraint_at.0
    constraint_in_task = constraint_task q constraint_at.1 (sym (a.kind constraint_at.1) ∙ h.1)

    constraint_own : Located own_rows constraint_in_task.in_task.attributes constraint_in_task.m constraint_at.0
    constraint_own = own_of constraint_in_task.in_task constraint_in_task.at

    constraint_is : AConstraint constraint_own.element.what constraint_own.m constraint_at.0
    constraint_is = constraint_only constraint_own.element.word constraint_own.element.what constraint_own.at (sym (a.kind constraint_at.1) ∙ h.1)

    abbrev its_component : Component
    its_component = record { named = constraint_is.n; attributes = constraint_is.xs }

    abbrev its_in : In constraint_in_task.in_task (component constraint_is.n constraint_is.xs)
    its_in = record { k = constraint_own.k; o = constraint_own.o; element = constraint_own.element; piece = constraint_own.piece; is = constraint_is.is }

    its_task : (i : ℕ) × At (tasks g) i constraint_in_task.in_task
    its_task = in_tasks (piece_at constraint_in_task.piece)

    its_place : (m : ℕ) × At (components_of constraint_in_task.in_task) m its_component
    its_place = is_component constraint_in_task.in_task constraint_is.n constraint_is.xs (piece_at constraint_own.piece) constraint_is.is

    its_spot : constraint_is.on.place ≡ spot s q
    its_spot = named_spot q (ap once h.1) (a.place constraint_at.1 constraint_is.name)

    its_index : q ≡ suc (constraint_in_task.j + (constraint_own.o + suc constraint_is.l))
    its_index = let x = constraint_in_task.index in let y = constraint_own.index in let z = constraint_is.index in omega arith

    from_itself : {c : ℕ} → Own s q c → Same s q c → Names.NameBreach g (spot s q)
    from_itself {c} o e =
        let p = constraint_in_task.piece in
        let y = only_owner p {c = its_component} its_in constraint_is.at c (subst (λ (z : ℕ). Own s z c) its_index o) in
        at_spot its_spot
        (Names.constraint_on_itself its_task.1 its_place.1 constraint_is.at
        (sym (a.spelt constraint_at.1 constraint_is.name) ∙ e ∙ ap s.spelt y ∙ a.spelt (own_row p {c = its_component} its_in) refl))

    from_none : ((c : ℕ) → Beside s q c → ¬ Same s q c) → Names.NameBreach g (spot s q)
    from_none f =
        let p = constraint_in_task.piece in
        at_spot its_spot
        (Names.constraint_on_none its_task.1 its_place.1 constraint_is.at
        (λ m d k e. let y = component_held p k in
        f y.0 (beside_held p constraint_in_task.at constraint_in_task.index y.1.holds)
        (a.spelt constraint_at.1 constraint_is.name ∙ e ∙ sym y.1.spelt)))

  from_flaw : {q : ℕ} → Flaw s q → Names.NameBreach g (spot s q)
  from_flaw {q} (task_again {i} l h k e) =
      let x = row_task i h in
      let y = row_task q k in
      at_spot (task_spot y.row) (Names.task_twice (rank_rise (of_kind task_kind) x.row.kept y.row.kept l) x.at y.at (alike_names x.row.spelt y.row.spelt e))
  from_flaw {q} (item_again {i} l h k e) =
      let x = row_item i h in
      let y = row_item q k in
      at_spot (word_spot “data” refl y.row) (Names.data_item_twice (rank_rise (of_kind is_data) x.row.kept y.row.kept l) x.at y.at (alike_names x.row.spelt y.row.spelt e))
  from_flaw (attribute_again l u o e f) = AttributeLaw.again_back g s a shape l u o e f
  from_flaw {q} (component_of_none h f) =
      let x = row_component q h in
      at_spot (word_spot “component” refl x.row)
      (Names.component_of_no_task x.at (λ j t k e. let y = task_row k in f y.0 (task_of y.1) (x.row.spelt ∙ e ∙ sym y.1.spelt)))
  from_flaw {q} (component_of_root h e) =
      let x = row_component q h in
      at_spot (word_spot “component” refl x.row) (Names.component_is_root x.at (root_task shape.first) (sym x.row.spelt ∙ e ∙ root_row.spelt))
  from_flaw {q} (component_again {i} l h k e) =
      let x = row_component i h in
      let y = row_component q k in
      at_spot (word_spot “component” refl y.row) (Names.component_twice (rank_rise (of_kind (is_word “component”)) x.row.kept y.row.kept l) x.at y.at (sym x.row.spelt ∙ e ∙ y.row.spelt))
  from_flaw {q} (constraint_of_itself h o e) = from_itself q h o e
  from_flaw {q} (constraint_of_none h f) = from_none q h f
  from_flaw {q} (target_of_none h f) =
      let x = row_target q h in
      at_spot (word_spot “=” refl x.row) (Names.target_no_item x.at (λ j d k e. let y = item_row k in f y.0 (of_word y.1) (alike_rows x.row.spelt y.1.spelt e)))
  from_flaw {q} (source_of_none h f) =
      let x = row_source q h in
      at_spot (word_spot “source” refl x.row) (Names.source_no_item x.at (λ j d k e. let y = item_row k in f y.0 (of_word y.1) (x.row.spelt ∙ e ∙ sym y.1.spelt)))

  pub from_row : {q : ℕ} → Bad s q → Names.NameBreach g (spot s q)
  from_row (flawed f) = from_flaw f
  from_row {q} (unreached h f) =
      let p = stand_row q h in
      at_spot (task_spot (row_of g s a task_kind p.3.kept)) (Names.not_reached p.2 (λ r. f (reach_to r p.2 p.3)))
