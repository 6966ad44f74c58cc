-- The rows of a guideline, taken apart: a piece for each task or data item, a piece for each attribute of a task; and the names of each kind in order.
-- By induction on the guideline, and by cases on the attributes.
use Rattle.std.specs.Prelude.{ℕ, zero, suc, ◌+◌, ◌≤◌, ◌<◌, ◌≡◌, refl, Bool, true, false, cond, ◌||◌, ◌⊎◌, List, [], ◌∷◌, ◌++◌, map, eqb, length}
use Rattle.std.proofs.Common.{sym, ap, subst, ◌∙◌, ⊎_elim, append_assoc, append-nil, arith, eqb-true}
use Rattle.std.proofs.Math.Option.{Option, none, some}
use Rattle.paper_expressions.specs.View.{At, at_first, at_later}
use Rattle.paper_expressions.proofs.Laws.Tests.{contra, two}
use Rattle.paper_expressions.proofs.Laws.Search.{no_clash}
use Rattle.paper_tokens.specs.Tokens.{“plan”, “action”, “enquiry”, “data”, “=”, “caption”, “description”, “trigger”, “component”, “source”, “schedule-constraint”, “terminal”, “mandatory”}
use Rattle.paper_grammar.proofs.Laws.Ll.{is_in}
use Rattle.paper_guideline.specs.Structure
use Structure.{Name, Placed, Assignment, ComponentAttribute, schedule_constraint, terminal, Generic, caption, description, SourceAttribute, source_generic, mandatory}
use Structure.{class_word, Attribute, generic, precondition, wait_condition, terminate, postcondition, trigger, component, source, Class, plan, action, enquiry, Task, DataItem, TopLevel, task, data_item, tasks, data_items}
use Rattle.paper_guideline.specs.Parts.{assignments, Component, components_of, components, Source, sources_of, sources}
use Rattle.guideline_rows.specs.Rows
use Rows.{Row, a_task, a_data_item, with_expression, with_name, with_answer, a_postcondition, an_assignment, generic_row, component_row, source_row, placed_rows, attribute_rows, attributes_rows, flatten, kind-of, name_of}
use Rattle.row_names.specs.Pieces.{each, Behind, at_either}
use Rattle.row_names.specs.Selected.{select, select_append}
use Rattle.row_names.specs.Sheet.{head_kind, task_kind}

or_false : (a b : Bool) → (a || b) ≡ false → (a ≡ false) × (b ≡ false)
or_false true b e = contra (sym e)
or_false false b e = (refl, e)

-- ---- pieces

abbrev pub head_row : TopLevel → Row
head_row (task t) = a_task t.class t.named
head_row (data_item d) = a_data_item d.named d.declared

abbrev pub body : TopLevel → List Row
body (task t) = attributes_rows t.attributes
body (data_item d) = placed_rows generic_row d.attributes

abbrev pub top_rows : TopLevel → List Row
top_rows x = head_row x ∷ body x

abbrev pub own_rows : Placed Attribute → List Row
own_rows a = attribute_rows a.word a.what

pub flat_each : (g : List TopLevel) → flatten g ≡ each top_rows g
flat_each [] = refl
flat_each (task t ∷ g) = ap (λ (l : List Row). a_task t.class t.named ∷ (attributes_rows t.attributes ++ l)) (flat_each g)
flat_each (data_item d ∷ g) = ap (λ (l : List Row). a_data_item d.named d.declared ∷ (placed_rows generic_row d.attributes ++ l)) (flat_each g)

pub attributes_each : (xs : List (Placed Attribute)) → attributes_rows xs ≡ each own_rows xs
attributes_each [] = refl
attributes_each (x ∷ xs) = ap (λ (l : List Row). attribute_rows x.word x.what ++ l) (attributes_each xs)

-- a row of an attribute with attributes of its own
pub placed_at : {A : Type 0} (f : ℕ → A → Row) {xs : List (Placed A)} {i : ℕ} {x : Placed A} → At xs i x → At (placed_rows f xs) i (f x.word x.what)
placed_at f at_first = at_first
placed_at f (at_later h) = at_later (placed_at f h)

pub record PlacedIn {A : Type 0} (f : ℕ → A → Row) (xs : List (Placed A)) (i : ℕ) (r : Row) : Type 0 where
  pub from : Placed A
  pub at : At xs i from
  pub is : r ≡ f from.word from.what

pub at_placed : {A : Type 0} (f : ℕ → A → Row) (xs : List (Placed A)) {i : ℕ} {r : Row} → At (placed_rows f xs) i r → PlacedIn f xs i r
at_placed f [] h = elim h [ ]
at_placed f (x ∷ xs) at_first = record { from = x; at = at_first; is = refl }
at_placed f (x ∷ xs) (at_later h) = let r = at_placed f xs h in record { from = r.from; at = at_later r.at; is = r.is }

-- ---- rows that are no heads

-- a task's or a data item's row that begins neither; its kind tells whether it has a name
abbrev pub named_kind : ℕ → Bool
named_kind k = is_in k (“trigger” ∷ “component” ∷ “source” ∷ “schedule-constraint” ∷ “=” ∷ [])

-- an attribute of a component or of a source
abbrev pub sub_kind : ℕ → Bool
sub_kind k = is_in k (“caption” ∷ “description” ∷ “schedule-constraint” ∷ “terminal” ∷ “mandatory” ∷ [])

abbrev pub is_there : {A : Type 0} → Option A → Bool
is_there none = false
is_there (some x) = true

pub record Inside (r : Row) : Type 0 where
  pub plain : head_kind (kind-of r) ≡ false
  pub names : named_kind (kind-of r) ≡ is_there (name_of r)

pub record Sub (r : Row) : Type 0 where
  pub kind : sub_kind (kind-of r) ≡ true
  pub inside : Inside r

pub generic_sub : (p : ℕ) (g : Generic) → Sub (generic_row p g)
generic_sub p (caption x) = record { kind = refl; inside = record { plain = refl; names = refl } }
generic_sub p (description x) = record { kind = refl; inside = record { plain = refl; names = refl } }

pub component_sub : (p : ℕ) (a : ComponentAttribute) → Sub (component_row p a)
component_sub p (schedule_constraint n) = record { kind = refl; inside = record { plain = refl; names = refl } }
component_sub p (terminal b) = record { kind = refl; inside = record { plain = refl; names = refl } }

pub source_sub : (p : ℕ) (a : SourceAttribute) → Sub (source_row p a)
source_sub p (source_generic g) = generic_sub p g
source_sub p (mandatory b) = record { kind = refl; inside = record { plain = refl; names = refl } }

pub placed_sub : {A : Type 0} (f : ℕ → A → Row) → ((p : ℕ) (a : A) → Sub (f p a)) → (xs : List (Placed A)) {i : ℕ} {r : Row} → At (placed_rows f xs) i r → Sub r
placed_sub f h (x ∷ xs) at_first = h x.word x.what
placed_sub f h (x ∷ xs) (at_later k) = placed_sub f h xs k
placed_sub {A = A} f h [] {i = i} {r = r} x' = elim x' [ ]

assigned_inside : (xs : List Assignment) {i : ℕ} {r : Row} → At (map an_assignment xs) i r → Inside r
assigned_inside (x ∷ xs) at_first = record { plain = refl; names = refl }
assigned_inside (x ∷ xs) (at_later h) = assigned_inside xs h
assigned_inside [] {i = i} {r = r} x' = elim x' [ ]

attribute_inside : (p : ℕ) (a : Attribute) {i : ℕ} {r : Row} → At (attribute_rows p a) i r → Inside r
attribute_inside p (generic g) at_first = (generic_sub p g).inside
attribute_inside p (precondition x) at_first = record { plain = refl; names = refl }
attribute_inside p (wait_condition x) at_first = record { plain = refl; names = refl }
attribute_inside p (terminate x) at_first = record { plain = refl; names = refl }
attribute_inside p (postcondition xs) at_first = record { plain = refl; names = refl }
attribute_inside p (postcondition xs) (at_later h) = assigned_inside xs h
attribute_inside p (trigger n) at_first = record { plain = refl; names = refl }
attribute_inside p (component n xs) at_first = record { plain = refl; names = refl }
attribute_inside p (component n xs) (at_later h) = (placed_sub component_row component_sub xs h).inside
attribute_inside p (source n xs) at_first = record { plain = refl; names = refl }
attribute_inside p (source n xs) (at_later h) = (placed_sub source_row source_sub xs h).inside
attribute_inside p (generic g) {r = r} (at_later {i = i} h) = elim h [ ]
attribute_inside p (precondition x) {r = r} (at_later {i = i} h) = elim h [ ]
attribute_inside p (wait_condition x) {r = r} (at_later {i = i} h) = elim h [ ]
attribute_inside p (terminate x) {r = r} (at_later {i = i} h) = elim h [ ]
attribute_inside p (trigger n) {r = r} (at_later {i = i} h) = elim h [ ]

attributes_inside : (xs : List (Placed Attribute)) (i : ℕ) {r : Row} → At (attributes_rows xs) i r → Inside r
attributes_inside [] i h = elim h [ ]
attributes_inside (x ∷ xs) i h = ⊎_elim
    (λ k. attribute_inside x.word x.what k)
    (λ b. attributes_inside xs b.m b.at)
    (at_either (attribute_rows x.word x.what) h)

pub body_inside : (x : TopLevel) {i : ℕ} {r : Row} → At (body x) i r → Inside r
body_inside (task t) {i} h = attributes_inside t.attributes i h
body_inside (data_item d) h = (placed_sub generic_row generic_sub d.attributes h).inside

pub head_is_head : (x : TopLevel) → head_kind (kind-of (head_row x)) ≡ true
head_is_head (data_item d) = refl
head_is_head (task t) = class_head t.class
  where
    class_head : (k : Class) → head_kind (class_word k) ≡ true
    class_head plan = refl
    class_head action = refl
    class_head enquiry = refl

-- ---- names, in order

-- the name of a row of these kinds
abbrev pub of_kind : (ℕ → Bool) → Row → Option Name
of_kind c r = cond (c (kind-of r)) (name_of r) none

module _ (c : ℕ → Bool) where
  pub of_kind_some : (r : Row) {n : Name} → c (kind-of r) ≡ true → name_of r ≡ some n → of_kind c r ≡ some n
  of_kind_some r e h = rw e h

  of_kind_none : (r : Row) → c (kind-of r) ≡ false → of_kind c r ≡ none
  of_kind_none r e = rw e

  pub of_kind_is : (r : Row) {n : Name} → of_kind c r ≡ some n → (c (kind-of r) ≡ true) × (name_of r ≡ some n)
  of_kind_is r {n} e = go (c (kind-of r)) refl e
    where
      go : (b : Bool) → c (kind-of r) ≡ b → cond b (name_of r) none ≡ some n → (c (kind-of r) ≡ true) × (name_of r ≡ some n)
      go true q h = (q, h)
      go false q h = absurd (no_clash (cc))

  none_of : (l : List Row) → ((i : ℕ) (r : Row) → At l i r → c (kind-of r) ≡ false) → select (of_kind c) l ≡ []
  none_of [] h = refl
  none_of (r ∷ l) h = rw (h 0 r at_first) (none_of l (λ i q k. h (suc i) q (at_later k)))

pub task_head : (k : ℕ) → head_kind k ≡ false → task_kind k ≡ false
task_head k e = let z = or_false (eqb k “plan”) _ e in
    let y = or_false (eqb k “action”) _ z.1 in
    let x = or_false (eqb k “enquiry”) _ y.1 in
    rw (z.0, y.0, x.0)

data_head : (k : ℕ) → head_kind k ≡ false → eqb k “data” ≡ false
data_head k e = let z = or_false (eqb k “plan”) _ e in
    let y = or_false (eqb k “action”) _ z.1 in
    let x = or_false (eqb k “enquiry”) _ y.1 in
    (or_false (eqb k “data”) _ x.1).0

pub class_task : (k : Class) → task_kind (class_word k) ≡ true
class_task plan = refl
class_task action = refl
class_task enquiry = refl

-- a task's row is chosen by no other test
abbrev pub is_data : ℕ → Bool
is_data k = eqb k “data”

abbrev pub is_word : ℕ → ℕ → Bool
is_word w k = eqb k w

-- of the test w no task's row is
pub record Passes (w : ℕ) : Type 0 where
  pub plan_no : is_word w “plan” ≡ false
  pub action_no : is_word w “action” ≡ false
  pub enquiry_no : is_word w “enquiry” ≡ false

class_passes : {w : ℕ} → Passes w → (k : Class) → is_word w (class_word k) ≡ false
class_passes h plan = h.plan_no
class_passes h action = h.action_no
class_passes h enquiry = h.enquiry_no

pub task-names : (g : List TopLevel) → select (of_kind task_kind) (flatten g) ≡ map (λ (t : Task). t.named) (tasks g)
task-names [] = refl
task-names (task t ∷ g) =
    rw (class_task t.class)
    (ap (λ (l : List Name). t.named ∷ l)
    (select_append (of_kind task_kind) (attributes_rows t.attributes) (flatten g)
    ∙ ap (λ (l : List Name). l ++ select (of_kind task_kind) (flatten g)) (none_of task_kind (attributes_rows t.attributes) (λ i r h. task_head (kind-of r) (body_inside (task t) h).plain))
    ∙ task-names g))
task-names (data_item d ∷ g) =
    select_append (of_kind task_kind) (placed_rows generic_row d.attributes) (flatten g)
    ∙ ap (λ (l : List Name). l ++ select (of_kind task_kind) (flatten g)) (none_of task_kind (placed_rows generic_row d.attributes) (λ i r h. task_head (kind-of r) (body_inside (data_item d) h).plain))
    ∙ task-names g

pub item-names : (g : List TopLevel) → select (of_kind is_data) (flatten g) ≡ map (λ (d : DataItem). d.named) (data_items g)
item-names [] = refl
item-names (task t ∷ g) =
    rw (class_passes {w = “data”} (record { plan_no = refl; action_no = refl; enquiry_no = refl }) t.class)
    (select_append (of_kind is_data) (attributes_rows t.attributes) (flatten g)
    ∙ ap (λ (l : List Name). l ++ select (of_kind is_data) (flatten g)) (none_of is_data (attributes_rows t.attributes) (λ i r h. data_head (kind-of r) (body_inside (task t) h).plain))
    ∙ item-names g)
item-names (data_item d ∷ g) =
    ap (λ (l : List Name). d.named ∷ l)
    (select_append (of_kind is_data) (placed_rows generic_row d.attributes) (flatten g)
    ∙ ap (λ (l : List Name). l ++ select (of_kind is_data) (flatten g)) (none_of is_data (placed_rows generic_row d.attributes) (λ i r h. data_head (kind-of r) (body_inside (data_item d) h).plain))
    ∙ item-names g)

map_both : {A B : Type 0} (f : A → B) (xs ys : List A) → map f (xs ++ ys) ≡ map f xs ++ map f ys
map_both f [] ys = refl
map_both f (x ∷ xs) ys = ap (λ l. f x ∷ l) (map_both f xs ys)

-- a word of which no attribute of a component or source is, and no task or data item
record Word (w : ℕ) : Type 0 where
  pub not_sub : sub_kind w ≡ false
  pub passes : Passes w
  pub not_data : is_word w “data” ≡ false

module _ (w : ℕ) (word : Word w) where
  sub_no : {r : Row} → Sub r → is_word w (kind-of r) ≡ false
  sub_no {r} h = ⊎_elim (λ e. contra (sym word.not_sub ∙ subst (λ (k : ℕ). sub_kind k ≡ true) (eqb-true (kind-of r) w e) h.kind)) (λ e. e) (two (is_word w (kind-of r)))

  -- rows of components or sources, before others
  over_sub : {A : Type 0} (f : ℕ → A → Row) → ((p : ℕ) (a : A) → Sub (f p a)) → (xs : List (Placed A)) (l : List Row)
      → select (of_kind (is_word w)) (placed_rows f xs ++ l) ≡ select (of_kind (is_word w)) l
  over_sub f h xs l =
      select_append (of_kind (is_word w)) (placed_rows f xs) l
      ∙ ap (λ (k : List Name). k ++ select (of_kind (is_word w)) l) (none_of (is_word w) (placed_rows f xs) (λ i r k. sub_no (placed_sub f h xs k)))

  over_assigned : is_word w “=” ≡ false → (xs : List Assignment) (l : List Row) → select (of_kind (is_word w)) (map an_assignment xs ++ l) ≡ select (of_kind (is_word w)) l
  over_assigned e [] l = refl
  over_assigned e (x ∷ xs) l = rw e (over_assigned e xs l)

  over_generic : (p : ℕ) (g : Generic) (l : List Row) → select (of_kind (is_word w)) (generic_row p g ∷ l) ≡ select (of_kind (is_word w)) l
  over_generic p g l = rw (sub_no (generic_sub p g))

  -- the names of a whole guideline, from those of each task
  from_tasks : {A : Type 0} (name : A → Name) (of_task : Task → List A)
      → ((t : Task) → select (of_kind (is_word w)) (attributes_rows t.attributes) ≡ map name (of_task t))
      → (g : List TopLevel) → select (of_kind (is_word w)) (flatten g) ≡ map name (each of_task (tasks g))
  from_tasks name of_task h [] = refl
  from_tasks name of_task h (task t ∷ g) =
      rw (class_passes word.passes t.class)
      (select_append (of_kind (is_word w)) (attributes_rows t.attributes) (flatten g)
      ∙ ap (λ (l : List Name). l ++ select (of_kind (is_word w)) (flatten g)) (h t)
      ∙ ap (λ (l : List Name). map name (of_task t) ++ l) (from_tasks name of_task h g)
      ∙ sym (map_both name (of_task t) (each of_task (tasks g))))
  from_tasks name of_task h (data_item d ∷ g) =
      rw word.not_data (over_sub generic_row generic_sub d.attributes (flatten g) ∙ from_tasks name of_task h g)

-- a task with these attributes
abbrev with_these : List (Placed Attribute) → Task
with_these xs = record { class = plan; named = record { spelt = []; place = 0 }; attributes = xs }

module _ (xs : List (Placed Attribute)) where
  component_word : Word “component”
  component_word = record { not_sub = refl; passes = record { plan_no = refl; action_no = refl; enquiry_no = refl }; not_data = refl }

  abbrev comps : List Name
  comps = select (of_kind (is_word “component”)) (attributes_rows xs)

  component_one : (p : ℕ) (a : Attribute) → comps ≡ map (λ (c : Component). c.named) (components_of (with_these xs))
      → select (of_kind (is_word “component”)) (attribute_rows p a ++ attributes_rows xs) ≡ map (λ (c : Component). c.named) (components_of (with_these (record { word = p; what = a } ∷ xs)))
  component_one p (generic g) h = over_generic “component” component_word p g (attributes_rows xs) ∙ h
  component_one p (precondition x) h = h
  component_one p (wait_condition x) h = h
  component_one p (terminate x) h = h
  component_one p (postcondition ys) h = over_assigned “component” component_word refl ys (attributes_rows xs) ∙ h
  component_one p (trigger n) h = h
  component_one p (component n ys) h = ap (λ (l : List Name). n ∷ l) (over_sub “component” component_word component_row component_sub ys (attributes_rows xs) ∙ h)
  component_one p (source n ys) h = over_sub “component” component_word source_row source_sub ys (attributes_rows xs) ∙ h

  source_word : Word “source”
  source_word = record { not_sub = refl; passes = record { plan_no = refl; action_no = refl; enquiry_no = refl }; not_data = refl }

  source_one : (p : ℕ) (a : Attribute) → select (of_kind (is_word “source”)) (attributes_rows xs) ≡ map (λ (c : Source). c.named) (sources_of (with_these xs))
      → select (of_kind (is_word “source”)) (attribute_rows p a ++ attributes_rows xs) ≡ map (λ (c : Source). c.named) (sources_of (with_these (record { word = p; what = a } ∷ xs)))
  source_one p (generic g) h = over_generic “source” source_word p g (attributes_rows xs) ∙ h
  source_one p (precondition x) h = h
  source_one p (wait_condition x) h = h
  source_one p (terminate x) h = h
  source_one p (postcondition ys) h = over_assigned “source” source_word refl ys (attributes_rows xs) ∙ h
  source_one p (trigger n) h = h
  source_one p (component n ys) h = over_sub “source” source_word component_row component_sub ys (attributes_rows xs) ∙ h
  source_one p (source n ys) h = ap (λ (l : List Name). n ∷ l) (over_sub “source” source_word source_row source_sub ys (attributes_rows xs) ∙ h)

  equals_word : Word “=”
  equals_word = record { not_sub = refl; passes = record { plan_no = refl; action_no = refl; enquiry_no = refl }; not_data = refl }

  -- the assignments of one task
  abbrev assigned : List Assignment
  assigned = assignments (task (with_these xs) ∷ [])

  targets_all : (ys : List Assignment) (l : List Row) → select (of_kind (is_word “=”)) (map an_assignment ys ++ l) ≡ map (λ (a : Assignment). a.target) ys ++ select (of_kind (is_word “=”)) l
  targets_all [] l = refl
  targets_all (y ∷ ys) l = ap (λ (k : List Name). y.target ∷ k) (targets_all ys l)

  target_one : (p : ℕ) (a : Attribute) → select (of_kind (is_word “=”)) (attributes_rows xs) ≡ map (λ (a : Assignment). a.target) assigned
      → select (of_kind (is_word “=”)) (attribute_rows p a ++ attributes_rows xs) ≡ map (λ (a : Assignment). a.target) (assignments (task (with_these (record { word = p; what = a } ∷ xs)) ∷ []))
  target_one p (generic g) h = over_generic “=” equals_word p g (attributes_rows xs) ∙ h
  target_one p (precondition x) h = h
  target_one p (wait_condition x) h = h
  target_one p (terminate x) h = h
  target_one p (postcondition ys) h =
      targets_all ys (attributes_rows xs)
      ∙ ap (λ (l : List Name). map (λ (a : Assignment). a.target) ys ++ l) h
      ∙ sym (map_both (λ (a : Assignment). a.target) ys assigned)
      ∙ ap (map (λ (a : Assignment). a.target)) (sym (append_assoc ys _ []))
  target_one p (trigger n) h = h
  target_one p (component n ys) h = over_sub “=” equals_word component_row component_sub ys (attributes_rows xs) ∙ h
  target_one p (source n ys) h = over_sub “=” equals_word source_row source_sub ys (attributes_rows xs) ∙ h

own_components : (xs : List (Placed Attribute)) → select (of_kind (is_word “component”)) (attributes_rows xs) ≡ map (λ (c : Component). c.named) (components_of (with_these xs))
own_components [] = refl
own_components (x ∷ xs) = component_one xs x.word x.what (own_components xs)

own_sources : (xs : List (Placed Attribute)) → select (of_kind (is_word “source”)) (attributes_rows xs) ≡ map (λ (c : Source). c.named) (sources_of (with_these xs))
own_sources [] = refl
own_sources (x ∷ xs) = source_one xs x.word x.what (own_sources xs)

own_targets : (xs : List (Placed Attribute)) → select (of_kind (is_word “=”)) (attributes_rows xs) ≡ map (λ (a : Assignment). a.target) (assignments (task (with_these xs) ∷ []))
own_targets [] = refl
own_targets (x ∷ xs) = target_one xs x.word x.what (own_targets xs)

pub component_names : (g : List TopLevel) → select (of_kind (is_word “component”)) (flatten g) ≡ map (λ (c : Component). c.named) (components g)
component_names g = from_tasks “component” (component_word []) (λ (c : Component). c.named) components_of (λ t. own_components t.attributes) g

pub source_names : (g : List TopLevel) → select (of_kind (is_word “source”)) (flatten g) ≡ map (λ (c : Source). c.named) (sources g)
source_names g = from_tasks “source” (source_word []) (λ (c : Source). c.named) sources_of (λ t. own_sources t.attributes) g

-- the assignments of one task, as `assignments` has them
abbrev assigned_in : Attribute → List Assignment
assigned_in (generic g) = []
assigned_in (precondition x) = []
assigned_in (wait_condition x) = []
assigned_in (terminate x) = []
assigned_in (postcondition xs) = xs
assigned_in (trigger n) = []
assigned_in (component n xs) = []
assigned_in (source n xs) = []

abbrev assigned_of : Task → List Assignment
assigned_of t = each (λ (a : Placed Attribute). assigned_in a.what) t.attributes

pub target_names : (g : List TopLevel) → select (of_kind (is_word “=”)) (flatten g) ≡ map (λ (a : Assignment). a.target) (assignments g)
target_names g = from_tasks “=” (equals_word []) (λ (a : Assignment). a.target) assigned_of (λ t. own_targets t.attributes ∙ ap (map (λ (a : Assignment). a.target)) (append-nil (assigned_of t))) g
