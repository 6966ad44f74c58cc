-- Law: without its places and parentheses a lawful guideline is lawful. By element: each part of the bare guideline is the bare part of the guideline.
use Rattle.std.specs.Prelude.{ℕ, zero, suc, ◌<◌, ◌≡◌, refl, ◌⊎◌, List, [], ◌∷◌, ◌++◌, map}
use Rattle.std.proofs.Common.{sym, ap, subst, ◌∙◌, inl, inr}
use Rattle.std.proofs.Math.Option.{Option, none, some}
use Rattle.paper_expressions.specs.Bytes.{folded, Alike}
use Rattle.paper_expressions.specs.View.{View, Item, At, at_first, at_later}
use Rattle.paper_expressions.proofs.Laws.Search.{no_clash}
use Rattle.paper_expressions.proofs.Laws.Parentheses.{bare, type_to_bare}
use Rattle.paper_guideline.specs.Structure
use Structure.{Name, Outermost, Placed, Assignment, ComponentAttribute, schedule_constraint, terminal, Generic, caption, description, SourceAttribute, source_generic, mandatory}
use Structure.{Attribute, generic, precondition, wait_condition, terminate, postcondition, trigger, component, source, Task, DataItem, TopLevel, task, data_item, tasks, data_items}
use Rattle.paper_guideline.specs.Parts
use Parts.{Role, condition, wording, assigned_to, Typed, expressions, assignments, Component, components_of, components, Source, sources_of, sources}
use Rattle.paper_guideline.specs.Names
use Names.{MayRepeat, Repeated, Names, Reached, the_root, by_component, NameBreach, task_twice, data_item_twice, task_attribute_twice, component_attribute_twice, source_attribute_twice, data_attribute_twice, component_of_no_task, component_is_root, component_twice, no_component, not_reached, constraint_on_itself, constraint_on_none, target_no_item, source_no_item}
use Rattle.paper_guideline.specs.Refusals.{Fitting, fits_condition, fits_wording, fits_assigned, declared_items}
use Rattle.paper_rows.specs.Bare
use Bare.{bare_name, bare_expression, bare_placed, bare_assignment, bare_component, bare_generic, bare_source, bare_attribute, bare_task, bare_item, bare_top, bare_guideline}
use Rattle.paper_rows.proofs.Laws.Lists.{each, at_map, map_at}
use Rattle.paper_guideline.specs.Parts.{typed, of_generic, of_source, of_attribute, expressions_from, assigned_in, assignments_of, component_in, source_in}
use Rattle.paper_guideline.specs.Names.{generic_word, word_of, component_word, source_word}
use Rattle.paper_rows.proofs.Laws.Lawful.{Lawful}
use Rattle.paper_rows.proofs.Laws.LoadLaws.{reached_by_names}

-- ---- gathered from mapped lists

map_append : {A B : Type 0} (f : A → B) (l m : List A) → map f (l ++ m) ≡ map f l ++ map f m
map_append f [] m = refl
map_append f (x ∷ l) m = ap (λ r. f x ∷ r) (map_append f l m)

each_map : {A B : Type 0} (f : A → List B) (h : A → A) (k : B → B) → ((a : A) → f (h a) ≡ map k (f a)) → (l : List A) → each f (map h l) ≡ map k (each f l)
each_map f h k e [] = refl
each_map f h k e (a ∷ l) = (let p = e a in let q = each_map f h k e l in let z : f (h a) ++ each f (map h l) ≡ map k (f a) ++ map k (each f l) = cc in z) ∙ sym (map_append k (f a) (each f l))

each_mapped : {A B C : Type 0} (f : A → List C) (g : B → List C) (h : A → B) (k : C → C) → ((a : A) → g (h a) ≡ map k (f a)) → (l : List A) → each g (map h l) ≡ map k (each f l)
each_mapped f g h k e [] = refl
each_mapped f g h k e (a ∷ l) = (let p = e a in let q = each_mapped f g h k e l in let z : g (h a) ++ each g (map h l) ≡ map k (f a) ++ map k (each f l) = cc in z) ∙ sym (map_append k (f a) (each f l))

-- ---- the parts of a bare guideline

abbrev pub bare_part : Component → Component
bare_part c = record { named = bare_name c.named; attributes = map (bare_placed bare_component) c.attributes }

abbrev pub bare_origin : Source → Source
bare_origin s = record { named = bare_name s.named; attributes = map (bare_placed bare_source) s.attributes }

abbrev bare_role : Role → Role
bare_role condition = condition
bare_role wording = wording
bare_role (assigned_to n) = assigned_to (bare_name n)

abbrev pub bare_typed : Typed → Typed
bare_typed x = record { expression = bare_expression x.expression; role = bare_role x.role; attached = x.attached }

pub bare_tasks : (g : List TopLevel) → tasks (bare_guideline g) ≡ map bare_task (tasks g)
bare_tasks [] = refl
bare_tasks (task t ∷ g) = ap (λ (l : List Task). bare_task t ∷ l) (bare_tasks g)
bare_tasks (data_item d ∷ g) = bare_tasks g

pub bare_items : (g : List TopLevel) → data_items (bare_guideline g) ≡ map bare_item (data_items g)
bare_items [] = refl
bare_items (task t ∷ g) = bare_items g
bare_items (data_item d ∷ g) = ap (λ (l : List DataItem). bare_item d ∷ l) (bare_items g)

component_bare : (a : Attribute) → component_in (bare_attribute a) ≡ map bare_part (component_in a)
component_bare (generic g) = refl
component_bare (precondition x) = refl
component_bare (wait_condition x) = refl
component_bare (terminate x) = refl
component_bare (postcondition xs) = refl
component_bare (trigger n) = refl
component_bare (component n xs) = refl
component_bare (source n xs) = refl

source_bare : (a : Attribute) → source_in (bare_attribute a) ≡ map bare_origin (source_in a)
source_bare (generic g) = refl
source_bare (precondition x) = refl
source_bare (wait_condition x) = refl
source_bare (terminate x) = refl
source_bare (postcondition xs) = refl
source_bare (trigger n) = refl
source_bare (component n xs) = refl
source_bare (source n xs) = refl

assigned_bare : (a : Attribute) → assigned_in (bare_attribute a) ≡ map bare_assignment (assigned_in a)
assigned_bare (generic g) = refl
assigned_bare (precondition x) = refl
assigned_bare (wait_condition x) = refl
assigned_bare (terminate x) = refl
assigned_bare (postcondition xs) = refl
assigned_bare (trigger n) = refl
assigned_bare (component n xs) = refl
assigned_bare (source n xs) = refl

components_of_bare : (t : Task) → components_of (bare_task t) ≡ map bare_part (components_of t)
components_of_bare t = each_map (λ (a : Placed Attribute). component_in a.what) (bare_placed bare_attribute) bare_part (λ a. component_bare a.what) t.attributes

sources_of_bare : (t : Task) → sources_of (bare_task t) ≡ map bare_origin (sources_of t)
sources_of_bare t = each_map (λ (a : Placed Attribute). source_in a.what) (bare_placed bare_attribute) bare_origin (λ a. source_bare a.what) t.attributes

assignments_of_bare : (t : Task) → assignments_of (bare_task t) ≡ map bare_assignment (assignments_of t)
assignments_of_bare t = each_map (λ (a : Placed Attribute). assigned_in a.what) (bare_placed bare_attribute) bare_assignment (λ a. assigned_bare a.what) t.attributes

pub components_bare : (g : List TopLevel) → components (bare_guideline g) ≡ map bare_part (components g)
components_bare g = ap (each components_of) (bare_tasks g) ∙ each_map components_of bare_task bare_part components_of_bare (tasks g)

pub sources_bare : (g : List TopLevel) → sources (bare_guideline g) ≡ map bare_origin (sources g)
sources_bare g = ap (each sources_of) (bare_tasks g) ∙ each_map sources_of bare_task bare_origin sources_of_bare (tasks g)

pub assignments_bare : (g : List TopLevel) → assignments (bare_guideline g) ≡ map bare_assignment (assignments g)
assignments_bare g = ap (each assignments_of) (bare_tasks g) ∙ each_map assignments_of bare_task bare_assignment assignments_of_bare (tasks g)

-- ---- its expressions

generic_typed : (t : ℕ) (x : Generic) → of_generic t (bare_generic x) ≡ map bare_typed (of_generic t x)
generic_typed t (caption x) = refl
generic_typed t (description x) = refl

source_typed : (t : ℕ) (x : SourceAttribute) → of_source t (bare_source x) ≡ map bare_typed (of_source t x)
source_typed t (source_generic g) = generic_typed t g
source_typed t (mandatory b) = refl

attribute_typed : (t : ℕ) (x : Attribute) → of_attribute t (bare_attribute x) ≡ map bare_typed (of_attribute t x)
attribute_typed t (generic g) = generic_typed t g
attribute_typed t (precondition x) = refl
attribute_typed t (wait_condition x) = refl
attribute_typed t (terminate x) = refl
attribute_typed t (postcondition xs) = each_map (λ (a : Assignment). typed t (assigned_to a.target) a.value) bare_assignment bare_typed (λ a. refl) xs
attribute_typed t (trigger n) = refl
attribute_typed t (component n xs) = refl
attribute_typed t (source n xs) = each_map (λ (a : Placed SourceAttribute). of_source t a.what) (bare_placed bare_source) bare_typed (λ a. source_typed t a.what) xs

expressions_bare : (t : ℕ) (g : List TopLevel) → expressions_from t (bare_guideline g) ≡ map bare_typed (expressions_from t g)
expressions_bare t [] = refl
expressions_bare t (task k ∷ g) =
    let p = each_map (λ (a : Placed Attribute). of_attribute t a.what) (bare_placed bare_attribute) bare_typed (λ a. attribute_typed t a.what) k.attributes in
    let q = expressions_bare (suc t) g in
    (let z : expressions_from t (bare_guideline (task k ∷ g)) ≡ map bare_typed (each (λ (a : Placed Attribute). of_attribute t a.what) k.attributes) ++ map bare_typed (expressions_from (suc t) g) = cc in z)
    ∙ sym (map_append bare_typed (each (λ (a : Placed Attribute). of_attribute t a.what) k.attributes) (expressions_from (suc t) g))
expressions_bare t (data_item d ∷ g) =
    let p = each_map (λ (a : Placed Generic). of_generic 0 a.what) (bare_placed bare_generic) bare_typed (λ a. generic_typed 0 a.what) d.attributes in
    let q = expressions_bare t g in
    (let z : expressions_from t (bare_guideline (data_item d ∷ g)) ≡ map bare_typed (each (λ (a : Placed Generic). of_generic 0 a.what) d.attributes) ++ map bare_typed (expressions_from t g) = cc in z)
    ∙ sym (map_append bare_typed (each (λ (a : Placed Generic). of_generic 0 a.what) d.attributes) (expressions_from t g))

pub bare_expressions : (g : List TopLevel) → expressions (bare_guideline g) ≡ map bare_typed (expressions g)
bare_expressions g = expressions_bare 0 g

-- ---- an element of a mapped list, and back

abbrev Of : {A : Type 0} → (A → A) → List A → ℕ → A → Type 0
Of {A} f l i y = (x : A) × At l i x × (f x ≡ y)

of_mapped : {A : Type 0} (f : A → A) {l m : List A} {i : ℕ} {y : A} → m ≡ map f l → At m i y → Of f l i y
of_mapped f {l} {i} {y} e h = map_at f l (subst (λ (z : List _). At z i y) e h)

to_mapped : {A : Type 0} (f : A → A) {l m : List A} {i : ℕ} {x : A} → m ≡ map f l → At l i x → At m i (f x)
to_mapped f {i} {x} e h = subst (λ (z : List _). At z i (f x)) (sym e) (at_map f h)

-- ---- its declared items are the same

declared_same : (g : List TopLevel) → declared_items (bare_guideline g) ≡ declared_items g
declared_same g = ap (λ (l : List Item). let v : View = record { items = l; tasks = [] } in v) (items g)
  where
    items : (g : List TopLevel) → (declared_items (bare_guideline g)).items ≡ (declared_items g).items
    items [] = refl
    items (task t ∷ g) = items g
    items (data_item d ∷ g) = ap (λ (l : List Item). record { name = d.named.spelt; declared = d.declared; value = none } ∷ l) (items g)

fitting_bare : {v : View} {x : Typed} (r : Role) → Fitting v x r → Fitting v (bare_typed x) (bare_role r)
fitting_bare {v} {x} condition (fits_condition h) = fits_condition (type_to_bare v x.attached h)
fitting_bare {v} {x} wording (fits_wording h) = fits_wording (type_to_bare v x.attached h)
fitting_bare {v} {x} (assigned_to n) (fits_assigned r h k f) = fits_assigned r h (type_to_bare v x.attached k) f

-- ---- a rule on names that is broken in the bare guideline is broken in the guideline

module _ (g : List TopLevel) where
  abbrev Broken : Type 0
  Broken = (q : ℕ) × NameBreach g q

  repeated : {A : Type 0} {m : List (Placed A)} {p : ℕ} (word : A → ℕ) (f : A → A) (l : List (Placed A)) → ((a : A) → word (f a) ≡ word a) → m ≡ map (bare_placed f) l → Repeated word m p → (q : ℕ) × Repeated word l q
  repeated {A} word f l w e r =
      let a = of_mapped (bare_placed f) e r.at_i in
      let b = of_mapped (bare_placed f) e r.at_j in
      let wa : word r.earlier.what ≡ word a.0.what = ap (λ (x : Placed A). word x.what) (sym a.2) ∙ w a.0.what in
      let wb : word r.later.what ≡ word b.0.what = ap (λ (x : Placed A). word x.what) (sym b.2) ∙ w b.0.what in
      (b.0.word, record { i = r.i; j = r.j; earlier = a.0; later = b.0; in_order = r.in_order; at_i = a.1; at_j = b.1; same = sym wa ∙ r.same ∙ wb; once = λ m. r.once (subst MayRepeat (sym wa) m); there = refl })

  word_kept : (a : Attribute) → word_of (bare_attribute a) ≡ word_of a
  word_kept (generic (caption x)) = refl
  word_kept (generic (description x)) = refl
  word_kept (precondition x) = refl
  word_kept (wait_condition x) = refl
  word_kept (terminate x) = refl
  word_kept (postcondition xs) = refl
  word_kept (trigger n) = refl
  word_kept (component n xs) = refl
  word_kept (source n xs) = refl

  component_word_kept : (a : ComponentAttribute) → component_word (bare_component a) ≡ component_word a
  component_word_kept (schedule_constraint n) = refl
  component_word_kept (terminal b) = refl

  generic_word_kept : (a : Generic) → generic_word (bare_generic a) ≡ generic_word a
  generic_word_kept (caption x) = refl
  generic_word_kept (description x) = refl

  source_word_kept : (a : SourceAttribute) → source_word (bare_source a) ≡ source_word a
  source_word_kept (source_generic x) = generic_word_kept x
  source_word_kept (mandatory b) = refl

  task_of : {i : ℕ} {t : Task} → At (tasks (bare_guideline g)) i t → Of bare_task (tasks g) i t
  task_of h = of_mapped bare_task (bare_tasks g) h

  item_of : {i : ℕ} {d : DataItem} → At (data_items (bare_guideline g)) i d → Of bare_item (data_items g) i d
  item_of h = of_mapped bare_item (bare_items g) h

  component-of : {i : ℕ} {c : Component} → At (components (bare_guideline g)) i c → Of bare_part (components g) i c
  component-of h = of_mapped bare_part (components_bare g) h

  -- the components of a task of the bare guideline
  part_of : {j : ℕ} {p : Task} {c : Component} (t : Task) → bare_task t ≡ p → At (components_of p) j c → Of bare_part (components_of t) j c
  part_of {j} {c = c} t e h = of_mapped bare_part (components_of_bare t) (subst (λ (x : Task). At (components_of x) j c) (sym e) h)

  to_part : {j : ℕ} {p : Task} {c : Component} (t : Task) → bare_task t ≡ p → At (components_of t) j c → At (components_of p) j (bare_part c)
  to_part {j} {c = c} t e h = subst (λ (x : Task). At (components_of x) j (bare_part c)) e (to_mapped bare_part (components_of_bare t) h)

  to_reached : {j : ℕ} → Reached g j → Reached (bare_guideline g) j
  to_reached the_root = the_root
  to_reached (by_component {p} r a b d e) = by_component (to_reached r) (to_mapped bare_task (bare_tasks g) a) (to_part p refl b) (to_mapped bare_task (bare_tasks g) d) e

  -- the constraint of a component of the bare guideline
  constraint_of : {k w : ℕ} {d : Component} {n : Name} (c : Component) → bare_part c ≡ d → At d.attributes k (record { word = w; what = schedule_constraint n })
      → (v : ℕ) × (m : Name) × At c.attributes k (record { word = v; what = schedule_constraint m }) × (m.spelt ≡ n.spelt)
  constraint_of {k} {w} {d} {n} c e h = go (map_at (bare_placed bare_component) c.attributes (subst (λ (x : Component). At x.attributes k (record { word = w; what = schedule_constraint n })) (sym e) h))
    where
      go : (x : Placed ComponentAttribute) × At c.attributes k x × (bare_placed bare_component x ≡ record { word = w; what = schedule_constraint n })
          → (v : ℕ) × (m : Name) × At c.attributes k (record { word = v; what = schedule_constraint m }) × (m.spelt ≡ n.spelt)
      go (x, a, q) = by x.what refl
        where
          by : (y : ComponentAttribute) → x.what ≡ y → (v : ℕ) × (m : Name) × At c.attributes k (record { word = v; what = schedule_constraint m }) × (m.spelt ≡ n.spelt)
          by (schedule_constraint m) z = (
            x.word,
            m,
            subst (λ (y : ComponentAttribute). At c.attributes k (record { word = x.word; what = y })) z a,
            spelt_same (ap (λ (y : ComponentAttribute). bare_component y) (sym z) ∙ ap (λ (y : Placed ComponentAttribute). y.what) q),
          )
            where
              named : {a b : Name} → schedule_constraint a ≡ schedule_constraint b → a ≡ b
              named e = cc

              spelt_same : schedule_constraint (bare_name m) ≡ schedule_constraint n → m.spelt ≡ n.spelt
              spelt_same e = ap (λ (y : Name). y.spelt) (named e)
          by (terminal b) z = absurd (other (ap (λ (y : ComponentAttribute). bare_component y) (sym z) ∙ ap (λ (y : Placed ComponentAttribute). y.what) q))
            where
              other : terminal b ≡ schedule_constraint n → ⊥
              other e = no_clash (cc)

  pub broken : {p : ℕ} → NameBreach (bare_guideline g) p → Broken
  broken (task_twice l h k e) =
      let a = task_of h in let b = task_of k in
      (_, task_twice l a.1 b.1 (ap (λ (x : Task). folded x.named.spelt) a.2 ∙ e ∙ sym (ap (λ (x : Task). folded x.named.spelt) b.2)))
  broken (data_item_twice l h k e) =
      let a = item_of h in let b = item_of k in
      (_, data_item_twice l a.1 b.1 (ap (λ (x : DataItem). folded x.named.spelt) a.2 ∙ e ∙ sym (ap (λ (x : DataItem). folded x.named.spelt) b.2)))
  broken (task_attribute_twice h r) = let a = task_of h in let q = repeated word_of bare_attribute a.0.attributes word_kept (sym (ap (λ (x : Task). x.attributes) a.2)) r in (q.0, task_attribute_twice a.1 q.1)
  broken (component_attribute_twice h r) = let a = component-of h in let q = repeated component_word bare_component a.0.attributes component_word_kept (sym (ap (λ (x : Component). x.attributes) a.2)) r in (q.0, component_attribute_twice a.1 q.1)
  broken (source_attribute_twice h r) = let a = of_mapped bare_origin (sources_bare g) h in let q = repeated source_word bare_source a.0.attributes source_word_kept (sym (ap (λ (x : Source). x.attributes) a.2)) r in (q.0, source_attribute_twice a.1 q.1)
  broken (data_attribute_twice h r) = let a = item_of h in let q = repeated generic_word bare_generic a.0.attributes generic_word_kept (sym (ap (λ (x : DataItem). x.attributes) a.2)) r in (q.0, data_attribute_twice a.1 q.1)
  broken (component_of_no_task h f) =
      let a = component-of h in
      (_, component_of_no_task a.1 (λ j t i e. f j (bare_task t) (to_mapped bare_task (bare_tasks g) i) (sym (ap (λ (x : Component). x.named.spelt) a.2) ∙ e)))
  broken (component_is_root h k e) =
      let a = component-of h in let b = task_of k in
      (_, component_is_root a.1 b.1 (ap (λ (x : Component). x.named.spelt) a.2 ∙ e ∙ sym (ap (λ (x : Task). x.named.spelt) b.2)))
  broken (component_twice l h k e) =
      let a = component-of h in let b = component-of k in
      (_, component_twice l a.1 b.1 (ap (λ (x : Component). x.named.spelt) a.2 ∙ e ∙ sym (ap (λ (x : Component). x.named.spelt) b.2)))
  broken (no_component l h f) =
      let a = task_of h in
      (_, no_component l a.1 (λ i c k e. f i (bare_part c) (to_mapped bare_part (components_bare g) k) (e ∙ ap (λ (x : Task). x.named.spelt) a.2)))
  broken (not_reached h n) = let a = task_of h in (_, not_reached a.1 (λ r. n (to_reached r)))
  broken (constraint_on_itself h k q e) =
      let a = task_of h in let b = part_of a.0 a.2 k in let d = constraint_of b.0 b.2 q in
      (_, constraint_on_itself a.1 b.1 d.2 (d.3 ∙ e ∙ sym (ap (λ (x : Component). x.named.spelt) b.2)))
  broken (constraint_on_none h k q f) =
      let a = task_of h in let b = part_of a.0 a.2 k in let d = constraint_of b.0 b.2 q in
      (_, constraint_on_none a.1 b.1 d.2 (λ m c i e. f m (bare_part c) (to_part a.0 a.2 i) (sym d.3 ∙ e)))
  broken (target_no_item h f) =
      let a = of_mapped bare_assignment (assignments_bare g) h in
      (_, target_no_item a.1 (λ j d i e. f j (bare_item d) (to_mapped bare_item (bare_items g) i) (sym (ap (λ (x : Assignment). folded x.target.spelt) a.2) ∙ e)))
  broken (source_no_item h f) =
      let a = of_mapped bare_origin (sources_bare g) h in
      (_, source_no_item a.1 (λ j d i e. f j (bare_item d) (to_mapped bare_item (bare_items g) i) (sym (ap (λ (x : Source). x.named.spelt) a.2) ∙ e)))

pub bare_lawful : {g : List TopLevel} → Lawful g → Lawful (bare_guideline g)
bare_lawful {g} lawful = record { reached = reached_by_names names; names = names; types = types }
  where
    names : (p : ℕ) → ¬ NameBreach (bare_guideline g) p
    names p b = let q = broken g b in lawful.names q.0 q.1

    types : {i : ℕ} {x : Typed} → At (expressions (bare_guideline g)) i x → Fitting (declared_items (bare_guideline g)) x x.role
    types {i} {x} h =
        let a = of_mapped bare_typed (bare_expressions g) h in
        subst (λ (v : View). Fitting v x x.role) (sym (declared_same g))
        (subst (λ (y : Typed). Fitting (declared_items g) y y.role) a.2 (fitting_bare a.0.role (lawful.types a.1)))
