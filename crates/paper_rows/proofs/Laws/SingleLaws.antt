-- Law: of a lawful guideline load adds at most one row for each component and property.
use Rattle.std.specs.Prelude.{ℕ, zero, suc, ◌+◌, ◌<◌, ◌≤◌, ◌≡◌, refl, Bool, ◌⊎◌, List, [], ◌∷◌, ◌++◌, map, length}
use Rattle.std.proofs.Common.{arith, sym, ap, subst, ◌∙◌, inl, inr, length-append}
use Rattle.std.proofs.Math.Decide.{dec_lt}
use Rattle.paper_expressions.specs.Bytes.{folded, Alike}
use Rattle.paper_expressions.proofs.Laws.Search.{no_clash, at_one}
use Rattle.paper_expressions.specs.View.{At, at_first, at_later}
use Rattle.paper_guideline.specs.Structure
use Structure.{Name, Outermost, Placed, Assignment, Attribute, ComponentAttribute, SourceAttribute, Task, DataItem, TopLevel, tasks, data_items}
use Rattle.paper_guideline.specs.Parts as Parts
use Parts.{components_of, components, Source, sources_of, sources}
use Rattle.paper_guideline.specs.Names.{Names, Repeated, NameBreach, task_twice, data_item_twice, task_attribute_twice, component_attribute_twice, source_attribute_twice, component_twice}
use Rattle.paper_rows.specs.Table as Table
use Table.{task, data_item, source, Component, ◌№◌, Property, RowValue, class_is, type_is, expression_is, assertion_is, component_is, components_are, text_row, truth_row}
use Rattle.paper_rows.specs.Load
use Load.{InstantiateTask, InstantiateComponent, task_5, SetTaskAttribute, task_4, SetComponentAttribute, component_4, InstantiateSource, attribute_3, sources_before, ClassRow, class_constant, assigns, numbered, Antecedents, antecedents_none, antecedents_more, antecedents_other}
use Load.{Adds, task_2, task_3, component_3a, component_3b, component_attribute_1, component_attribute_5, attribute_1b, attribute_1c, attribute_5_precondition, attribute_5_wait_condition, attribute_5_trigger, attribute_5_postcondition, attribute_5_terminate}
use Load.{source_3, source_4, source_5, source_7, source_8, data_item_3, data_item_4a, data_item_4b}
use Rattle.paper_rows.proofs.Laws.Lawful.{Lawful, defined}
use Rattle.paper_rows.proofs.Laws.Lists.{at_most, at_below, each, before, before_at}

-- the order of the positions
before_less : {A B : Type 0} (f : A → List B) {l : List A} {i j : ℕ} {a x : A} → At l i a → At l j x → i < j → before f i l + length (f a) ≤ before f j l
before_less f at_first at_first h = absurd (let z : ⊥ = omega arith in z)
before_less f (at_first {x} {l}) (at_later {i = j} k) h = let z : 0 + length (f x) ≤ length (f x) + before f j l = omega arith in z
before_less f (at_later g) at_first h = absurd (let z : ⊥ = omega arith in z)
before_less f (at_later {y} {i} g) (at_later {i = j} k) h = omega (arith, before_less f g k (let z : i < j = omega arith in z))

-- two elements of a joined list, at the same place or at two
pub data Places {A B : Type 0} (f : A → List B) (l : List A) (i k : ℕ) (b : B) (j m : ℕ) (c : B) : Type 0 where
  same_place : i ≡ j → k ≡ m → Places f l i k b j m c
  two_places : {p q : ℕ} → p < q → At (each f l) p b → At (each f l) q c → Places f l i k b j m c
  two_places' : {p q : ℕ} → q < p → At (each f l) p b → At (each f l) q c → Places f l i k b j m c

places : {A B : Type 0} (f : A → List B) {l : List A} {i k j m : ℕ} {a x : A} {b c : B} → At l i a → At (f a) k b → At l j x → At (f x) m c → Places f l i k b j m c
places f {l} {i} {k} {j} {m} {a} {x} {b} {c} h g h' g' = go (dec_lt i j) (dec_lt j i) (dec_lt k m) (dec_lt m k)
  where
    go : Dec (i < j) → Dec (j < i) → Dec (k < m) → Dec (m < k) → Places f l i k b j m c
    go (yes u) v w z = two_places (let q : before f i l + k < before f j l + m = omega (arith, before_less f h h' u, at_below g) in q) (before_at f h g) (before_at f h' g')
    go (no u) (yes v) w z = two_places' (let q : before f j l + m < before f i l + k = omega (arith, before_less f h' h v, at_below g') in q) (before_at f h g) (before_at f h' g')
    go (no u) (no v) (yes w) z =
        let e : i ≡ j = at_most u v in
        two_places (let q : before f i l + k < before f j l + m = omega (arith, ap (λ (n : ℕ). before f n l) e) in q) (before_at f h g) (before_at f h' g')
    go (no u) (no v) (no w) (yes z) =
        let e : i ≡ j = at_most u v in
        two_places' (let q : before f j l + m < before f i l + k = omega (arith, ap (λ (n : ℕ). before f n l) e) in q) (before_at f h g) (before_at f h' g')
    go (no u) (no v) (no w) (no z) = same_place (at_most u v) (at_most w z)

-- ---- what a lawful guideline has once

module _ {g : List TopLevel} (lawful : Lawful g) where
  pub task_once : {i j : ℕ} {s t : Task} → At (tasks g) i s → At (tasks g) j t → s.named.spelt ≡ t.named.spelt → i ≡ j
  task_once h k e = at_most (λ l. lawful.names _ (task_twice l h k (ap folded e))) (λ l. lawful.names _ (task_twice l k h (ap folded (sym e))))

  pub item_once : {i j : ℕ} {x y : DataItem} → At (data_items g) i x → At (data_items g) j y → x.named.spelt ≡ y.named.spelt → i ≡ j
  item_once h k e = at_most (λ l. lawful.names _ (data_item_twice l h k (ap folded e))) (λ l. lawful.names _ (data_item_twice l k h (ap folded (sym e))))

  -- a task is a component once
  pub record SameComponent (P Q : ℕ) (a b : Parts.Component) : Type 0 where
    pub plans : P ≡ Q
    pub parts : a ≡ b

  pub component_once : {P Q T : ℕ} {a b : Parts.Component} → InstantiateComponent g P a T → InstantiateComponent g Q b T → SameComponent P Q a b
  component_once {P} {Q} {T} {a} {b} (task_5 {k} {p} {t} i h j e) (task_5 {k = k'} {p = p'} {t = t'} i' h' j' e') = go (places components_of (defined i) h (defined i') h')
    where
      spelt : a.named.spelt ≡ b.named.spelt
      spelt = e ∙ ap (λ (x : Task). x.named.spelt) (at_one j j') ∙ sym e'

      go : Places components_of (tasks g) P k a Q k' b → SameComponent P Q a b
      go (same_place u v) =
          let w : p ≡ p' = at_one (subst (λ (x : ℕ). At (tasks g) x p) u (defined i)) (defined i') in
          record { plans = u; parts = at_one (subst (λ (x : Task). At (components_of x) k' a) w (subst (λ (x : ℕ). At (components_of p) x a) v h)) h' }
      go (two_places l u v) = absurd (lawful.names _ (component_twice l u v spelt))
      go (two_places' l u v) = absurd (lawful.names _ (component_twice l v u (sym spelt)))

  -- where a component stands among all
  pub component_at : {P T : ℕ} {a : Parts.Component} → InstantiateComponent g P a T → (i : ℕ) × At (components g) i a
  component_at (task_5 i h j e) = (_, before_at components_of (defined i) h)

  pub source_at : {c n : ℕ} {s : Source} → InstantiateSource g c s n → At (sources g) n s
  source_at {c} {n} {s} (attribute_3 {k} h q e) = subst (λ (x : ℕ). At (sources g) x s) (ap (λ (x : ℕ). x + k) (counted c (tasks g)) ∙ sym e) (before_at sources_of (defined h) q)
    where
      counted : (c : ℕ) (l : List Task) → before sources_of c l ≡ sources_before c l
      counted zero l = refl
      counted (suc c) [] = refl
      counted (suc c) (t ∷ l) = ap (λ (x : ℕ). length (sources_of t) + x) (counted c l)

  source_once : {c d n : ℕ} {s u : Source} → InstantiateSource g c s n → InstantiateSource g d u n → s ≡ u
  source_once h k = at_one (source_at h) (source_at k)

  -- the antecedents of a component
  named_once : {p c d : ℕ} {a b : Parts.Component} → InstantiateComponent g p a c → InstantiateComponent g p b d → a.named.spelt ≡ b.named.spelt → c ≡ d
  named_once (task_5 i h j e) (task_5 i' h' j' e') q = task_once j j' (sym e ∙ q ∙ e')

  pub antecedents_once : {p : ℕ} {l : List (Placed ComponentAttribute)} {ts us : List Component} → Antecedents g p l ts → Antecedents g p l us → ts ≡ us
  antecedents_once antecedents_none antecedents_none = refl
  antecedents_once (antecedents_more i e h) (antecedents_more i' e' k) =
      let c = named_once i i' (e ∙ sym e') in
      let r = antecedents_once h k in
      cc
  antecedents_once (antecedents_other h) (antecedents_other k) = antecedents_once h k

  antecedents_same : {p q : ℕ} {a b : Parts.Component} {ts us : List Component} → SameComponent p q a b → Antecedents g p a.attributes ts → Antecedents g q b.attributes us → ts ≡ us
  antecedents_same {q} {a} {ts} e u v =
      antecedents_once (subst (λ (x : Parts.Component). Antecedents g q x.attributes ts) e.parts (subst (λ (x : ℕ). Antecedents g x a.attributes ts) e.plans u)) v

  class_once : {c : ℕ} {k m : Table.Class} → ClassRow g c k → ClassRow g c m → k ≡ m
  class_once a b = sym a.constant ∙ ap (λ (x : Task). class_constant x.class) (at_one (defined a.instantiated) (defined b.instantiated)) ∙ b.constant

  -- ---- attributes that may not repeat

  abbrev Twice : ℕ → Attribute → Attribute → Type 0
  Twice c a b = (t : Task) (i j w v : ℕ) → At (tasks g) c t → At t.attributes i (record { word = w; what = a }) → At t.attributes j (record { word = v; what = b }) → i < j → NameBreach g v

  set_once : {c : ℕ} {a b : Attribute} → Twice c a b → Twice c b a → SetTaskAttribute g c a → SetTaskAttribute g c b → a ≡ b
  set_once {c} {a} {b} f f' (task_4 {t} {k = i} {w} h q) (task_4 {t = t'} {k = j} {w = v} h' q') =
      let d = defined h in
      let e : t' ≡ t = at_one (defined h') d in
      let r : At t.attributes j (record { word = v; what = b }) = subst (λ (x : Task). At x.attributes j (record { word = v; what = b })) e q' in
      let z : i ≡ j = at_most (λ l. lawful.names v (f t i j w v d q r l)) (λ l. lawful.names w (f' t j i v w d r q l)) in
      ap (λ (x : Placed Attribute). x.what) (at_one (subst (λ (n : ℕ). At t.attributes n (record { word = w; what = a })) z q) r)

  twice_precondition : {c : ℕ} (x y : Outermost) → Twice c (Structure.precondition x) (Structure.precondition y)
  twice_precondition x y t i j w v d q r l =
      task_attribute_twice d (record { i = i; j = j; earlier = record { word = w; what = Structure.precondition x }; later = record { word = v; what = Structure.precondition y }; in_order = l; at_i = q; at_j = r; same = refl; once = λ m. elim m [ ]; there = refl })

  twice_wait_condition : {c : ℕ} (x y : Outermost) → Twice c (Structure.wait_condition x) (Structure.wait_condition y)
  twice_wait_condition x y t i j w v d q r l =
      task_attribute_twice d (record { i = i; j = j; earlier = record { word = w; what = Structure.wait_condition x }; later = record { word = v; what = Structure.wait_condition y }; in_order = l; at_i = q; at_j = r; same = refl; once = λ m. elim m [ ]; there = refl })

  twice_terminate : {c : ℕ} (x y : Outermost) → Twice c (Structure.terminate x) (Structure.terminate y)
  twice_terminate x y t i j w v d q r l =
      task_attribute_twice d (record { i = i; j = j; earlier = record { word = w; what = Structure.terminate x }; later = record { word = v; what = Structure.terminate y }; in_order = l; at_i = q; at_j = r; same = refl; once = λ m. elim m [ ]; there = refl })

  twice_trigger : {c : ℕ} (x y : Name) → Twice c (Structure.trigger x) (Structure.trigger y)
  twice_trigger x y t i j w v d q r l =
      task_attribute_twice d (record { i = i; j = j; earlier = record { word = w; what = Structure.trigger x }; later = record { word = v; what = Structure.trigger y }; in_order = l; at_i = q; at_j = r; same = refl; once = λ m. elim m [ ]; there = refl })

  twice_postcondition : {c : ℕ} (x y : List Assignment) → Twice c (Structure.postcondition x) (Structure.postcondition y)
  twice_postcondition x y t i j w v d q r l =
      task_attribute_twice d (record { i = i; j = j; earlier = record { word = w; what = Structure.postcondition x }; later = record { word = v; what = Structure.postcondition y }; in_order = l; at_i = q; at_j = r; same = refl; once = λ m. elim m [ ]; there = refl })

  terminal_once : {c p q : ℕ} {a b : Bool} → SetComponentAttribute g c p (Structure.terminal a) → SetComponentAttribute g c q (Structure.terminal b) → a ≡ b
  terminal_once {a} {b} (component_4 {b = x} {k = i} {w} h q) (component_4 {b = y} {k = j} {w = v} h' q') =
      let e : y ≡ x = sym (component_once h h').parts in
      let r : At x.attributes j (record { word = v; what = Structure.terminal b }) = subst (λ (z : Parts.Component). At z.attributes j (record { word = v; what = Structure.terminal b })) e q' in
      let d = (component_at h).1 in
      let z : i ≡ j = at_most (λ l. lawful.names v (component_attribute_twice d (record { i = i; j = j; earlier = record { word = w; what = Structure.terminal a }; later = record { word = v; what = Structure.terminal b }; in_order = l; at_i = q; at_j = r; same = refl; once = λ m. elim m [ ]; there = refl })))
      (λ l. lawful.names w (component_attribute_twice d (record { i = j; j = i; earlier = record { word = v; what = Structure.terminal b }; later = record { word = w; what = Structure.terminal a }; in_order = l; at_i = r; at_j = q; same = refl; once = λ m. elim m [ ]; there = refl }))) in
      same_terminal (at_one (subst (λ (n : ℕ). At x.attributes n (record { word = w; what = Structure.terminal a })) z q) r)
    where
      same_terminal : {w v : ℕ} {a b : Bool} → ◌≡◌ {A = Placed ComponentAttribute} (record { word = w; what = Structure.terminal a }) (record { word = v; what = Structure.terminal b }) → a ≡ b
      same_terminal e = let f = ap (λ (x : Placed ComponentAttribute). x.what) e in cc

  mandatory_once : {n i j w v : ℕ} {s : Source} {a b : Bool} → At (sources g) n s → At s.attributes i (record { word = w; what = Structure.mandatory a })
      → At s.attributes j (record { word = v; what = Structure.mandatory b }) → a ≡ b
  mandatory_once {n} {i} {j} {w} {v} {s} {a} {b} d q r =
      let z : i ≡ j = at_most (λ l. lawful.names v (source_attribute_twice d (record { i = i; j = j; earlier = record { word = w; what = Structure.mandatory a }; later = record { word = v; what = Structure.mandatory b }; in_order = l; at_i = q; at_j = r; same = refl; once = λ m. elim m [ ]; there = refl })))
      (λ l. lawful.names w (source_attribute_twice d (record { i = j; j = i; earlier = record { word = v; what = Structure.mandatory b }; later = record { word = w; what = Structure.mandatory a }; in_order = l; at_i = r; at_j = q; same = refl; once = λ m. elim m [ ]; there = refl }))) in
      same_mandatory (at_one (subst (λ (n : ℕ). At s.attributes n (record { word = w; what = Structure.mandatory a })) z q) r)
    where
      same_mandatory : {w v : ℕ} {a b : Bool} → ◌≡◌ {A = Placed SourceAttribute} (record { word = w; what = Structure.mandatory a }) (record { word = v; what = Structure.mandatory b }) → a ≡ b
      same_mandatory e = let f = ap (λ (x : Placed SourceAttribute). x.what) e in cc

  -- ---- one row

  pub adds_once : {c : Component} {p : Property} {r q : RowValue} → Adds g c p r → Adds g c p q → r ≡ q
  adds_once (task_2 h) (task_2 k) = ap class_is (class_once h k)
  adds_once (task_3 h) (task_3 k) = refl
  adds_once (component_3a h u) (component_3a k v) = refl
  adds_once (component_3a h u) (component_3b k n) = absurd (n u)
  adds_once (component_3b h n) (component_3a k u) = absurd (n u)
  adds_once (component_3b h n) (component_3b k m) = refl
  adds_once (component_attribute_1 h u) (component_attribute_1 k v) = ap components_are (antecedents_same (component_once h k) u v)
  adds_once (component_attribute_5 h) (component_attribute_5 k) = ap truth_row (terminal_once h k)
  adds_once (attribute_1b h) (attribute_1b k) = ap (λ (x : Parts.Component). text_row x.named.spelt) (component_once h k).parts
  adds_once (attribute_1c h) (attribute_1c k) = ap (λ (x : ℕ). component_is (task № x)) (component_once h k).plans
  adds_once (attribute_5_precondition {e} h) (attribute_5_precondition {e = f} k) = same_precondition (set_once (twice_precondition e f) (twice_precondition f e) h k)
    where
      same_precondition : {x y : Outermost} → Structure.precondition x ≡ Structure.precondition y → expression_is x.tree ≡ expression_is y.tree
      same_precondition {x} {y} q = let z : x ≡ y = cc in ap (λ (u : Outermost). expression_is u.tree) z
  adds_once (attribute_5_wait_condition {e} h) (attribute_5_wait_condition {e = f} k) = same_wait (set_once (twice_wait_condition e f) (twice_wait_condition f e) h k)
    where
      same_wait : {x y : Outermost} → Structure.wait_condition x ≡ Structure.wait_condition y → expression_is x.tree ≡ expression_is y.tree
      same_wait {x} {y} q = let z : x ≡ y = cc in ap (λ (u : Outermost). expression_is u.tree) z
  adds_once (attribute_5_trigger {n} h) (attribute_5_trigger {n = m} k) = same_trigger (set_once (twice_trigger n m) (twice_trigger m n) h k)
    where
      same_trigger : {x y : Name} → Structure.trigger x ≡ Structure.trigger y → text_row x.spelt ≡ text_row y.spelt
      same_trigger {x} {y} q = let z : x ≡ y = cc in ap (λ (u : Name). text_row u.spelt) z
  adds_once (attribute_5_postcondition {l} h) (attribute_5_postcondition {l = m} k) = same_postcondition (set_once (twice_postcondition l m) (twice_postcondition m l) h k)
    where
      same_postcondition : {x y : List Assignment} → Structure.postcondition x ≡ Structure.postcondition y → assertion_is (map assigns x) ≡ assertion_is (map assigns y)
      same_postcondition {x} {y} q = let z : x ≡ y = cc in ap (λ (u : List Assignment). assertion_is (map assigns u)) z
  adds_once (attribute_5_terminate {e} h) (attribute_5_terminate {e = f} k) = same_terminate (set_once (twice_terminate e f) (twice_terminate f e) h k)
    where
      same_terminate : {x y : Outermost} → Structure.terminate x ≡ Structure.terminate y → expression_is x.tree ≡ expression_is y.tree
      same_terminate {x} {y} q = let z : x ≡ y = cc in ap (λ (u : Outermost). expression_is u.tree) z
  adds_once (source_3 h) (source_3 k) = refl
  adds_once (source_4 h) (source_4 k) = ap (λ (x : Source). text_row x.named.spelt) (source_once h k)
  adds_once (source_5 {c} {t} h e) (source_5 {t = t'} k f) =
      let a : t ≡ t' = at_one (defined h) (defined k) in
      ap (λ (x : List Source). components_are (numbered (sources_before c (tasks g)) x)) (sym e ∙ ap sources_of a ∙ f)
  adds_once (source_7 h x e) (source_7 k y f) =
      ap (λ (n : ℕ). component_is (data_item № n)) (item_once x y (e ∙ ap (λ (s : Source). s.named.spelt) (source_once h k) ∙ sym f))
  adds_once (source_8 {n} {s} {b} h q) (source_8 {k = j} {w = v} {s = u} {b = b'} k r) =
      ap truth_row (mandatory_once (source_at h) q (subst (λ (x : Source). At x.attributes j (record { word = v; what = Structure.mandatory b' })) (sym (source_once h k)) r))
  adds_once (data_item_3 h) (data_item_3 k) = refl
  adds_once (data_item_4a h) (data_item_4a k) = ap (λ (x : DataItem). text_row x.named.spelt) (at_one h k)
  adds_once (data_item_4b h) (data_item_4b k) = ap (λ (x : DataItem). type_is x.declared) (at_one h k)
