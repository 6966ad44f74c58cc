-- Law: an attribute's row repeats an earlier one exactly where an attribute of one owner stands twice.
-- By the run of rows of one owner: a data item's, a component's, a source's; a task's by the pieces of its attributes.
use Rattle.std.specs.Prelude.{ℕ, zero, suc, ◌+◌, ◌-◌, ◌≤◌, ◌<◌, ◌≡◌, refl, Bool, true, false, cond, ◌||◌, ◌&&◌, not, ◌⊎◌, List, [], ◌∷◌, ◌++◌, map, length}
use Rattle.std.proofs.Common.{sym, ap, subst, ◌∙◌, inl, inr, ⊎_elim, arith}
use Rattle.std.proofs.Math.Decide.{dec_lt}
use Rattle.paper_expressions.specs.View.{At, at_first, at_later}
use Rattle.paper_expressions.proofs.Laws.Tests.{contra, two, not_both}
use Rattle.paper_expressions.proofs.Laws.Search.{at_one}
use Rattle.parts.specs.ItemLaws.{at_index, index_of}
use Rattle.paper_tokens.specs.Tokens
use Tokens.{“plan”, “action”, “enquiry”, “data”, “=”, “caption”, “description”, “component”, “source”, “schedule-constraint”, “terminal”, “mandatory”}
use Rattle.paper_grammar.proofs.Laws.Ll.{is_in}
use Rattle.paper_guideline.specs.Structure
use Structure.{Name, Placed, Assignment, ComponentAttribute, schedule_constraint, terminal, Generic, caption, description, SourceAttribute, source_generic, mandatory}
use Structure.{Attribute, generic, precondition, wait_condition, terminate, postcondition, trigger, component, source, Task, DataItem, TopLevel, task, data_item, tasks, data_items}
use Rattle.paper_guideline.specs.Parts.{Component, components, Source, sources}
use Rattle.paper_guideline.specs.Names as Names
use Rattle.guideline_rows.specs.Rows
use Rows.{Row, generic_row, component_row, source_row, placed_rows, attribute_rows, flatten, kind-of}
use Rattle.row_names.specs.Pieces.{Piece, at_piece, piece_at, in_whole, in_order, one_piece, Located}
use Rattle.row_names.specs.Shape.{Shaped, is_generic}
use Rattle.row_names.specs.Sheet
use Sheet.{Sheet, head_kind, once, inner, parts_from, Bad, flawed, attribute_again, spot}
use Rattle.row_names.specs.Flat
use Flat.{body, top_rows, own_rows, attributes_each, at_placed, placed_at, sub_kind, Sub, generic_sub, component_sub, source_sub, body_inside, head_is_head}
use Rattle.row_names.specs.Agreement
use Agreement.{Agrees, in_list, top_of, stand_of, row_at, inside_sheet}
use Rattle.row_names.specs.Owners
use Owners.{Own, the_word, of_component, of_source, of_assigned, own_view, word_row, own_of, In, component_is, source_is, is_component, is_source, component_task, source_task, component_all, source_all, body_at, head_there}
use Owners.{generic_word, word_of, component_word, source_word, generic_kind, generic_place, component_kind, component_place, source_kind, source_place}

-- ---- words that stand once, and rows that part nothing

unnot : (b : Bool) → not b ≡ true → b ≡ false
unnot true e = contra e
unnot false e = refl

head_not_once : (k : ℕ) → head_kind k ≡ true → once k ≡ false
head_not_once k e = unnot (once k) (in_list (λ (z : ℕ). not (once z)) (“plan” ∷ “action” ∷ “enquiry” ∷ “data” ∷ []) k refl e)

quiet : (k : ℕ) {r : Row} → Sub r → parts_from k (kind-of r) ≡ false
quiet k {r} h =
    unnot (parts_from k (kind-of r))
    (in_list (λ (z : ℕ). not (parts_from k z)) (“caption” ∷ “description” ∷ “schedule-constraint” ∷ “terminal” ∷ “mandatory” ∷ []) (kind-of r) refl h.kind)

not_may : {w : ℕ} → Names.MayRepeat w → once w ≡ false
not_may Names.component_may = refl
not_may Names.constraint_may = refl
not_may Names.source_may = refl

may_not : {w : ℕ} → once w ≡ true → ¬ Names.MayRepeat w
may_not e h = contra (sym (not_may h) ∙ e)

generic_once : (a : Generic) → once (generic_word a) ≡ true
generic_once (caption x) = refl
generic_once (description x) = refl

attribute_once : (a : Attribute) → ¬ Names.MayRepeat (word_of a) → once (word_of a) ≡ true
attribute_once (generic g) h = generic_once g
attribute_once (precondition x) h = refl
attribute_once (wait_condition x) h = refl
attribute_once (terminate x) h = refl
attribute_once (postcondition xs) h = refl
attribute_once (trigger n) h = refl
attribute_once (component n xs) h = absurd (h Names.component_may)
attribute_once (source n xs) h = absurd (h Names.source_may)

component_once : (a : ComponentAttribute) → ¬ Names.MayRepeat (component_word a) → once (component_word a) ≡ true
component_once (schedule_constraint n) h = absurd (h Names.constraint_may)
component_once (terminal b) h = refl

source_once : (a : SourceAttribute) → ¬ Names.MayRepeat (source_word a) → once (source_word a) ≡ true
source_once (source_generic g) h = generic_once g
source_once (mandatory b) h = refl

generic_inner : (g : Generic) → inner (generic_word g) ≡ true
generic_inner (caption x) = refl
generic_inner (description x) = refl

source_inner : (a : SourceAttribute) → inner (source_word a) ≡ true
source_inner (source_generic g) = generic_inner g
source_inner (mandatory b) = refl

component_inner : (a : ComponentAttribute) → once (component_word a) ≡ true → inner (component_word a) ≡ true
component_inner (schedule_constraint n) e = contra e
component_inner (terminal b) e = refl

inner_generic : (a : Attribute) → inner (word_of a) ≡ true → is_generic a ≡ true
inner_generic (generic g) e = refl
inner_generic (precondition x) e = e
inner_generic (wait_condition x) e = e
inner_generic (terminate x) e = e
inner_generic (postcondition xs) e = e
inner_generic (trigger n) e = e
inner_generic (component n xs) e = e
inner_generic (source n xs) e = e

-- words that are no task attribute's
abbrev foreign : ℕ → Bool
foreign k = is_in k (“schedule-constraint” ∷ “terminal” ∷ “mandatory” ∷ “=” ∷ [])

generic_of_task : (g : Generic) → foreign (generic_word g) ≡ false
generic_of_task (caption x) = refl
generic_of_task (description x) = refl

of_task : (a : Attribute) → foreign (word_of a) ≡ false
of_task (generic g) = generic_of_task g
of_task (precondition x) = refl
of_task (wait_condition x) = refl
of_task (terminate x) = refl
of_task (postcondition xs) = refl
of_task (trigger n) = refl
of_task (component n xs) = refl
of_task (source n xs) = refl

component_foreign : (a : ComponentAttribute) → foreign (component_word a) ≡ true
component_foreign (schedule_constraint n) = refl
component_foreign (terminal b) = refl

generic_element : (b : Placed Attribute) {m : ℕ} {r : Row} → is_generic b.what ≡ true → At (own_rows b) m r → Sub r
generic_element b e h = go b.what e h
  where
    go : (a : Attribute) {m : ℕ} {r : Row} → is_generic a ≡ true → At (attribute_rows b.word a) m r → Sub r
    go (generic g) e at_first = generic_sub b.word g
    go (precondition x) e h = contra e
    go (wait_condition x) e h = contra e
    go (terminate x) e h = contra e
    go (postcondition xs) e h = contra e
    go (trigger n) e h = contra e
    go (component n xs) e h = contra e
    go (source n xs) e h = contra e
    go (generic g) e (at_later {i = i} x10) = elim x10 [ ]

item_in : (g : List TopLevel) (i : ℕ) (d : DataItem) → At (data_items g) i d → (k : ℕ) × At g k (data_item d)
item_in (task t ∷ g) i d h = let r = item_in g i d h in (suc r.0, at_later r.1)
item_in (data_item e ∷ g) i d h = go h (λ m k. item_in g m d k)
  where
    go : {i : ℕ} {d : DataItem} → At (e ∷ data_items g) i d → ((m : ℕ) → At (data_items g) m d → (k : ℕ) × At g k (data_item d)) → (k : ℕ) × At (data_item e ∷ g) k (data_item d)
    go at_first f = (0, at_first)
    go (at_later {i = m} k) f = let r = f m k in (suc r.0, at_later r.1)
item_in [] i d h = elim h [ ]

in_items : {g : List TopLevel} {k : ℕ} {d : DataItem} → At g k (data_item d) → (i : ℕ) × At (data_items g) i d
in_items at_first = (0, at_first)
in_items (at_later {y = task u} h) = in_items h
in_items (at_later {y = data_item e} h) = let r = in_items h in (suc r.0, at_later r.1)

in_tasks : {g : List TopLevel} {k : ℕ} {t : Task} → At g k (task t) → (i : ℕ) × At (tasks g) i t
in_tasks at_first = (0, at_first)
in_tasks (at_later {y = task u} h) = let r = in_tasks h in (suc r.0, at_later r.1)
in_tasks (at_later {y = data_item d} h) = in_tasks h

module _ (g : List TopLevel) (s : Sheet) (a : Agrees s (flatten g)) (shape : Shaped g) where
  -- ---- two rows with one word

  again : {i j p : ℕ} {r q : Row} → i < j → At (flatten g) i r → At (flatten g) j q → kind-of r ≡ kind-of q → once (kind-of q) ≡ true → Rows.word_of q ≡ p
      → ((m : ℕ) → i < m → m < j → parts_from (kind-of q) (s.kind m) ≡ false) → (k : ℕ) × Bad s k × (p ≡ spot s k)
  again {i} {j} {p} {q = q} l h k e o w f =
      let z = a.kind k in (
        j,
        flawed (attribute_again l (inside_sheet g s a k) (ap once z ∙ o) (a.kind h ∙ e ∙ sym z) (λ m u v. subst (λ (n : ℕ). parts_from n (s.kind m) ≡ false) (sym z) (f m u v))),
        rw (ap once z ∙ o) (sym (a.word k ∙ w)),
      )

  -- ---- the run of rows of one owner

  module _ {A : Type 0} (row : ℕ → A → Row) (word : A → ℕ) (kinds : (p : ℕ) (x : A) → kind-of (row p x) ≡ word x) (places : (p : ℕ) (x : A) → Rows.word_of (row p x) ≡ p)
      (subs : (p : ℕ) (x : A) → Sub (row p x)) (xs : List (Placed A)) (base : ℕ)
      (run : (l : ℕ) (x : Placed A) → At xs l x → (q : ℕ) → q ≡ base + l → At (flatten g) q (row x.word x.what)) where
    run_again : ((x : A) → ¬ Names.MayRepeat (word x) → once (word x) ≡ true) → {p : ℕ} → Names.Repeated word xs p → (k : ℕ) × Bad s k × (p ≡ spot s k)
    run_again onces {p} f =
        let l = f.in_order in
        let n = index_of f.at_j in
        let e = kinds f.earlier.word f.earlier.what in
        let k = kinds f.later.word f.later.what in
        again (let z : base + f.i < base + f.j = omega arith in z) (run f.i f.earlier f.at_i (base + f.i) refl) (run f.j f.later f.at_j (base + f.j) refl)
        (e ∙ f.same ∙ sym k)
        (ap once (k ∙ sym f.same) ∙ onces f.earlier.what f.once)
        (places f.later.word f.later.what ∙ sym f.there)
        (λ m u v. let y = at_index xs (m - base) (omega arith) in
        subst (λ (z : ℕ). parts_from (kind-of (row f.later.word f.later.what)) z ≡ false) (sym (a.kind (run (m - base) y.0 y.1 m (omega arith))))
        (quiet (kind-of (row f.later.word f.later.what)) (subs y.0.word y.0.what)))

    run_back : {i j l : ℕ} {x : Placed A} → base ≤ i → i < j → j ≡ base + l → At xs l x → s.kind i ≡ s.kind j → once (s.kind j) ≡ true → Names.Repeated word xs x.word
    run_back {i} {j} {l} {x} b u e h k o =
        let n = index_of h in
        let y = at_index xs (i - base) (omega arith) in
        let c = a.kind (run (i - base) y.0 y.1 i (omega arith)) ∙ kinds y.0.word y.0.what in
        let d = a.kind (run l x h j e) ∙ kinds x.word x.what in
        let w : word y.0.what ≡ word x.what = sym c ∙ k ∙ d in
        record {
          i = i - base;
          j = l;
          earlier = y.0;
          later = x;
          in_order = omega arith;
          at_i = y.1;
          at_j = h;
          same = w;
          once = may_not (ap once (w ∙ sym d) ∙ o);
          there = refl;
        }

  -- ---- the runs of a data item, of a component, of a source

  item_run : {k j : ℕ} {d : DataItem} → Piece top_rows g k j (data_item d)
      → (l : ℕ) (x : Placed Generic) → At d.attributes l x → (q : ℕ) → q ≡ suc j + l → At (flatten g) q (generic_row x.word x.what)
  item_run p l x h q e = body_at g s a p (placed_at generic_row h) q (omega arith)

  module _ {k j : ℕ} {t : Task} (p : Piece top_rows g k j (task t)) where
    own_body : {what : Attribute} (e : In t what) {m : ℕ} {r : Row} → At (attribute_rows e.element.word what) m r → At (body (task t)) (e.o + m) r
    own_body e {m} {r} h =
        subst (λ (l : List Row). At l (e.o + m) r) (sym (attributes_each t.attributes))
        (in_whole e.piece (subst (λ (z : Attribute). At (attribute_rows e.element.word z) m r) (sym e.is) h) (e.o + m) refl)

    component_run : {n : Name} {xs : List (Placed ComponentAttribute)} (e : In t (component n xs)) → (l : ℕ) (x : Placed ComponentAttribute) → At xs l x
        → (q : ℕ) → q ≡ suc (suc (j + e.o)) + l → At (flatten g) q (component_row x.word x.what)
    component_run e l x h q f = body_at g s a p (own_body e (at_later (placed_at component_row h))) q (omega arith)

    source_run : {n : Name} {xs : List (Placed SourceAttribute)} (e : In t (source n xs)) → (l : ℕ) (x : Placed SourceAttribute) → At xs l x
        → (q : ℕ) → q ≡ suc (suc (j + e.o)) + l → At (flatten g) q (source_row x.word x.what)
    source_run e l x h q f = body_at g s a p (own_body e (at_later (placed_at source_row h))) q (omega arith)

  -- ---- to the rows

  abbrev Broken : ℕ → Type 0
  Broken p = (k : ℕ) × Bad s k × (p ≡ spot s k)

  pub data_again : {i p : ℕ} {d : DataItem} → At (data_items g) i d → Names.Repeated generic_word d.attributes p → Broken p
  data_again {i} {d = d} h f =
      let k = item_in g i d h in
      let q = at_piece top_rows k.1 in
      run_again generic_row generic_word generic_kind generic_place generic_sub d.attributes (suc q.0) (item_run q.1) (λ x n. generic_once x) f

  pub component_again : {i p : ℕ} {c : Component} → At (components g) i c → Names.Repeated component_word c.attributes p → Broken p
  component_again {i} {c = c} h f =
      let l = component_task g i h in
      let q = stand_of g l.k l.element (piece_at l.piece) in
      let e = component_is l.element l.at in
      run_again component_row component_word component_kind component_place component_sub c.attributes (suc (suc (q.0 + e.o))) (component_run q.1.piece e) component_once f

  pub source_again : {i p : ℕ} {c : Source} → At (sources g) i c → Names.Repeated source_word c.attributes p → Broken p
  source_again {i} {c = c} h f =
      let l = source_task g i h in
      let q = stand_of g l.k l.element (piece_at l.piece) in
      let e = source_is l.element l.at in
      run_again source_row source_word source_kind source_place source_sub c.attributes (suc (suc (q.0 + e.o))) (source_run q.1.piece e) source_once f

  and_no : (x : Bool) → (x && false) ≡ false
  and_no true = refl
  and_no false = refl

  parts_none : (k m : ℕ) → head_kind m ≡ false → inner k ≡ false → parts_from k m ≡ false
  parts_none k m h e = rw (h, e) (and_no (is_in m (“component” ∷ “source” ∷ [])))

  parts_head : (k m : ℕ) → head_kind m ≡ true → parts_from k m ≡ true
  parts_head k m h = rw h

  before_piece : {xs : List (Placed Attribute)} {k m o q : ℕ} {b c : Placed Attribute} → Piece own_rows xs k o b → Piece own_rows xs m q c → o < q → k < m
  before_piece {xs} {k} {m} {o} {b = b} p q l = go (dec_lt k m) (dec_lt m k)
    where
      go : Dec (k < m) → Dec (m < k) → k < m
      go (yes u) d = u
      go (no u) (yes v) = absurd (let z = in_order q p v in omega arith)
      go (no u) (no v) = absurd (let w : k ≡ m = omega arith in let z = one_piece (subst (λ (n : ℕ). Piece own_rows xs n o b) w p) q in let y = z.0 in omega arith)

  pub task_again : {i p : ℕ} {t : Task} → At (tasks g) i t → Names.Repeated word_of t.attributes p → Broken p
  task_again {i} {t = t} h f =
      let q = stand_of g i t h in
      let j = q.0 in
      let x = at_piece own_rows f.at_i in
      let y = at_piece own_rows f.at_j in
      let r = word_row f.earlier.word f.earlier.what in
      let e = word_row f.later.word f.later.what in
      let w = in_order x.1 y.1 f.in_order in
      let n = index_of r.1 in
      again (let z : suc (j + (x.0 + 0)) < suc (j + (y.0 + 0)) = omega arith in z)
      (Owners.own_at g s a q.1.piece x.1 r.1 (suc (j + (x.0 + 0))) refl)
      (Owners.own_at g s a q.1.piece y.1 e.1 (suc (j + (y.0 + 0))) refl)
      (r.2 ∙ f.same ∙ sym e.2)
      (ap once (e.2 ∙ sym f.same) ∙ attribute_once f.earlier.what f.once)
      (e.3 ∙ sym f.there)
      (λ m u v. subst (λ (z : ℕ). parts_from z (s.kind m) ≡ false) (sym e.2) (between q y.1 e.1 m (omega arith) v))
    where
      between : (q : (j : ℕ) × Agreement.Stand g i j t) {o : ℕ} {r : Row} → Piece own_rows t.attributes f.j o f.later → At (own_rows f.later) 0 r
          → (m : ℕ) → q.0 < m → m < suc (q.0 + (o + 0)) → parts_from (word_of f.later.what) (s.kind m) ≡ false
      between q {o} {r} y e m u v =
          let b : At (body (task t)) (o + 0) r = subst (λ (l : List Row). At l (o + 0) r) (sym (attributes_each t.attributes)) (in_whole y e (o + 0) refl) in
          let n = index_of b in
          let d = at_index (body (task t)) (m - suc q.0) (omega arith) in
          let k = a.kind (body_at g s a q.1.piece d.1 m (omega arith)) in
          let l = own_of t d.1 in
          let z = l.index in
          subst (λ (z : ℕ). parts_from (word_of f.later.what) z ≡ false) (sym k)
          (⊎_elim
          (λ (c : inner (word_of f.later.what) ≡ true).
          quiet (word_of f.later.what)
          (generic_element l.element ((shape.leads h).before (before_piece l.piece y (omega arith)) (piece_at l.piece) f.at_j (inner_generic f.later.what c)) l.at))
          (λ c. parts_none (word_of f.later.what) (kind-of d.0) (body_inside (task t) d.1).plain c)
          (two (inner (word_of f.later.what))))

  -- ---- from the rows

  module _ {i j : ℕ} (l : i < j) (u : j < s.count) (o : once (s.kind j) ≡ true) (e : s.kind i ≡ s.kind j)
      (still : (m : ℕ) → i < m → m < j → parts_from (s.kind j) (s.kind m) ≡ false) where
    at_spot : {w : ℕ} → s.word j ≡ w → Names.NameBreach g w → Names.NameBreach g (spot s j)
    at_spot h b = subst (Names.NameBreach g) (sym (rw o h)) b

    -- what parts the rows stands before both
    behind_part : (q : ℕ) → q < j → parts_from (s.kind j) (s.kind q) ≡ true → once (s.kind q) ≡ false → q < i
    behind_part q v w n = go (dec_lt q i) (dec_lt i q)
      where
        go : Dec (q < i) → Dec (i < q) → q < i
        go (yes z) d = z
        go (no z) (yes y) = contra (sym (still q y v) ∙ w)
        go (no z) (no y) = let x : q ≡ i = omega arith in contra (sym n ∙ ap once (ap s.kind x ∙ e) ∙ o)

    behind_head : {k q : ℕ} {x : TopLevel} → Piece top_rows g k q x → q < j → q < i
    behind_head {q = q} p v = let h = head_there g s a p in behind_part q v (parts_head (s.kind j) (s.kind q) h) (head_not_once (s.kind q) h)

    item_back : {k q m : ℕ} {d : DataItem} {r : Row} → Piece top_rows g k q (data_item d) → At (body (data_item d)) m r → j ≡ suc (q + m) → At (flatten g) j r → Names.NameBreach g (spot s j)
    item_back {q = q} {d = d} p h f w =
        let y = at_placed generic_row d.attributes h in
        let v = behind_head p (omega arith) in
        at_spot (a.word w ∙ ap Rows.word_of y.is ∙ generic_place y.from.word y.from.what)
        (Names.data_attribute_twice (in_items (piece_at p)).1
        (run_back generic_row generic_word generic_kind generic_place generic_sub d.attributes (suc q) (item_run p) v l (omega arith) y.at e o))

    module _ (m : ℕ) {k q : ℕ} {t : Task} {r : Row} (p : Piece top_rows g k q (task t)) (f : j ≡ suc (q + m)) (w : At (flatten g) j r) where
      in_list_of_tasks : (i : ℕ) × At (tasks g) i t
      in_list_of_tasks = in_tasks (piece_at p)

      module _ {c n : ℕ} {b : Placed Attribute} (y : Piece own_rows t.attributes c n b) where
        -- the attribute's own row: the earlier one is an attribute's own row too
        word_back : kind-of r ≡ word_of b.what → Rows.word_of r ≡ b.word → m ≡ n + 0 → m < length (body (task t)) → Names.NameBreach g (spot s j)
        word_back x place z bound =
            let v = behind_head p (omega arith) in
            let d = at_index (body (task t)) (i - suc q) (omega arith) in
            let h = a.kind (body_at g s a p d.1 i (omega arith)) in
            let o = own_of t d.1 in
            let ix = o.index in
            let before = before_piece o.piece y (omega arith) in
            let same : kind-of d.0 ≡ word_of b.what = sym h ∙ e ∙ a.kind w ∙ x in
            go o.element.what refl (own_view o.element.word o.element.what o.at) same before (piece_at o.piece)
          where
            go : {w' : ℕ} {z' : Row} {m' k' : ℕ} {b' : Placed Attribute} (x' : Attribute) → b'.what ≡ x' → Own w' x' m' z' → kind-of z' ≡ word_of b.what → k' < c → At t.attributes k' b'
                → Names.NameBreach g (spot s j)
            go {k' = k'} {b'} x' is (the_word kind there) same before at =
                let word : word_of b'.what ≡ word_of b.what = ap word_of is ∙ sym kind ∙ same in
                at_spot (a.word w ∙ place)
                (Names.task_attribute_twice in_list_of_tasks.1
                (record { i = k'; j = c; earlier = b'; later = b; in_order = before; at_i = at; at_j = piece_at y; same = word; once = may_not (ap once (word ∙ sym x ∙ sym (a.kind w)) ∙ o); there = refl }))
            go x' is (of_component {x = v} h q') same before at =
                contra (sym (of_task b.what) ∙ ap foreign (sym (sym (component_kind v.word v.what) ∙ sym (ap kind-of q') ∙ same)) ∙ component_foreign v.what)
            go x' is (of_source {x = v} h q') same before at =
                let lead = inner_generic b.what (ap inner (sym (sym (source_kind v.word v.what) ∙ sym (ap kind-of q') ∙ same)) ∙ source_inner v.what) in
                contra (sym (ap is_generic is) ∙ (shape.leads in_list_of_tasks.1).before before at (piece_at y) lead)
            go x' is (of_assigned h q') same before at = contra (sym (of_task b.what) ∙ ap foreign (sym (sym (ap kind-of q') ∙ same)))

        -- the attribute's first row, before the rows of a component or source
        first_there : (x : Attribute) → b.what ≡ x → s.kind (suc (q + (n + 0))) ≡ word_of x
        first_there x is =
            let z = word_row b.word b.what in
            a.kind (Owners.own_at g s a p y z.1 (suc (q + (n + 0))) refl) ∙ z.2 ∙ ap word_of is

        component_back : {h : Name} {xs : List (Placed ComponentAttribute)} {d : ℕ} {x : Placed ComponentAttribute} → b.what ≡ component h xs → At xs d x → r ≡ component_row x.word x.what
            → m ≡ n + suc d → Names.NameBreach g (spot s j)
        component_back {h} {xs} {d} {x} is at re z =
            let word = a.kind w ∙ ap kind-of re ∙ component_kind x.word x.what in
            let first = first_there (component h xs) is in
            let inn = ap inner word ∙ component_inner x.what (sym (ap once word) ∙ o) in
            let v = behind_part (suc (q + (n + 0))) (omega arith) (rw (first, inn)) (ap once first) in
            let place = a.word w ∙ ap Rows.word_of re ∙ component_place x.word x.what in
            let c = is_component t h xs (piece_at y) is in
            at_spot place
            (Names.component_attribute_twice (component_all g in_list_of_tasks.1 c.1).1
            (run_back component_row component_word component_kind component_place component_sub xs (suc (suc (q + n))) (component_run p (record { k = _; o = n; element = b; piece = y; is = is }))
            (omega arith) l (omega arith) at e o))

        source_back : {h : Name} {xs : List (Placed SourceAttribute)} {d : ℕ} {x : Placed SourceAttribute} → b.what ≡ source h xs → At xs d x → r ≡ source_row x.word x.what
            → m ≡ n + suc d → Names.NameBreach g (spot s j)
        source_back {h} {xs} {d} {x} is at re z =
            let word = a.kind w ∙ ap kind-of re ∙ source_kind x.word x.what in
            let first = first_there (source h xs) is in
            let inn = ap inner word ∙ source_inner x.what in
            let v = behind_part (suc (q + (n + 0))) (omega arith) (rw (first, inn)) (ap once first) in
            let place = a.word w ∙ ap Rows.word_of re ∙ source_place x.word x.what in
            let c = is_source t h xs (piece_at y) is in
            at_spot place
            (Names.source_attribute_twice (source_all g in_list_of_tasks.1 c.1).1
            (run_back source_row source_word source_kind source_place source_sub xs (suc (suc (q + n))) (source_run p (record { k = _; o = n; element = b; piece = y; is = is }))
            (omega arith) l (omega arith) at e o))

        own_back : (x : Attribute) {d : ℕ} → b.what ≡ x → Own b.word x d r → m ≡ n + d → m < length (body (task t)) → Names.NameBreach g (spot s j)
        own_back x is (the_word kind there) z bound = word_back (kind ∙ ap word_of (sym is)) there z bound
        own_back x is (of_component at re) z bound = component_back is at re z
        own_back x is (of_source at re) z bound = source_back is at re z
        own_back x is (of_assigned at re) z bound = contra (sym (ap once (a.kind w ∙ ap kind-of re)) ∙ o)

    row_back : (x : TopLevel) {k q m : ℕ} {r : Row} → Piece top_rows g k q x → At (top_rows x) m r → j ≡ q + m → At (flatten g) j r → Names.NameBreach g (spot s j)
    row_back x p at_first f w = contra (sym (head_not_once (s.kind j) (ap head_kind (a.kind w) ∙ head_is_head x)) ∙ o)
    row_back (task t) p (at_later {i = m} h) f w =
        let y = own_of t h in
        own_back m p (omega arith) w y.piece y.element.what refl (own_view y.element.word y.element.what y.at) y.index (index_of h)
    row_back (data_item d) p (at_later h) f w = item_back p h (omega arith) w

    pub again_back : Names.NameBreach g (spot s j)
    again_back = let r = row_at g s a j u in let y = top_of g r.1 in row_back y.element y.piece y.at y.index r.1
