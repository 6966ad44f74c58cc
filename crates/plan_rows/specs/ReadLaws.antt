-- Law: what the plan counts and finds by the rows is what the structure has: tasks, items, sources and assignments by number, tasks and items by name.
-- By the rows before each, and by the first row that has the name.
use Rattle.std.specs.Prelude.{ℕ, zero, suc, ◌+◌, ◌-◌, ◌≤◌, ◌<◌, ◌≡◌, refl, Bool, true, false, ◌&&◌, ◌⊎◌, List, eqb, length}
use Rattle.std.proofs.Common.{arith, sym, ap, subst, ◌∙◌, inl, inr, eq-eqb, lt-ltb, le-ltb}
use Rattle.std.proofs.Math.Decide.{dec_lt}
use Rattle.paper_expressions.specs.Bytes.{folded, Alike}
use Rattle.paper_expressions.specs.View.{At, at_first, at_later}
use Rattle.paper_expressions.proofs.Laws.Tests.{contra, two, and_l, and_r, both}
use Rattle.paper_expressions.proofs.Laws.Search.{at_one, sameb, same_reflects, alikeb, alike_reflects, true_reflects, reflects_true}
use Rattle.parts.specs.ItemLaws.{at_index, index_of}
use Rattle.paper_tokens.specs.Tokens.{“component”}
use Rattle.paper_guideline.specs.Structure
use Structure.{Name, Placed, Attribute, ComponentAttribute, class_word, Task, DataItem, TopLevel, task, data_item, tasks, data_items}
use Rattle.paper_guideline.specs.Parts.{sources_of}
use Rattle.paper_guideline.specs.Parts.{assignments_of}
use Rattle.paper_guideline.specs.Names.{data_item_twice}
use Rattle.paper_rows.proofs.Laws.Lists.{before, at_most}
use Rattle.paper_rows.proofs.Laws.Lawful.{Lawful}
use Rattle.paper_rows.proofs.Laws.SingleLaws.{task_once, item_once}
use Rattle.guideline_rows.specs.Rows
use Rows.{Row, component_row, attribute_rows, flatten, kind-of, name_of}
use Rattle.parts.specs.Part.{Table}
use Rattle.row_names.specs.Pieces.{each}
use Rattle.row_names.specs.Sheet.{task_kind}
use Rattle.row_names.specs.Flat.{head_row, top_rows, own_rows, flat_each, class_task, is_data, Sub, component_sub, placed_sub}
use Rattle.row_names.specs.Agreement.{in_flat}
use Rattle.plan.specs.Writes.{Outline, one_if, counted, first_that, is_source, is_assignment, tasks_before, items_before, sources_before, assignments_before, at_task, task_row, task_named, item_named, item_alike, child}
use Rattle.plan_rows.specs.Counting.{tally, tally_to, tally_start, tally_next, tally_end}
use Rattle.plan_rows.specs.Last.{last_put}
use Rattle.plan_rows.specs.Stands.{by_kind, count_to, Stands, stands_of, ItemStands, item_of, sub_not, no_task_in, no_item_in, of_source, of_assigned, all_tasks, all_items}
use Rattle.plan_rows.specs.Owned.{Owned, first_row, in_body, owned_row, first_owned, no_task_between, tasks_here, sources_here, assignments_here}
use Rattle.plan_rows.specs.Seen.{Seen, seen, a_task_head, an_item_head, in_a_task, in_an_item}
use Rattle.plan_rows.specs.Reads.{Reads}

-- ---- the first that passes

module _ (c : ℕ → Bool) where
  pub first_found : (n : ℕ) → first_that c n < n → c (first_that c n) ≡ true
  first_found zero u = absurd (omega arith)
  first_found (suc n) u = go (dec_lt (first_that c n) n) (two (c n)) (λ v. first_found n v)
    where
      go : Dec (first_that c n < n) → (c n ≡ true) ⊎ (c n ≡ false) → (first_that c n < n → c (first_that c n) ≡ true) → c (first_that c (suc n)) ≡ true
      go (yes v) d f = rw (lt-ltb (first_that c n) n v) (f v)
      go (no v) (inl q) f = rw (le-ltb (first_that c n) n (omega arith), q) q
      go (no v) (inr q) f = absurd (let z : first_that c (suc n) ≡ suc n = rw (le-ltb (first_that c n) n (omega arith), q) in omega arith)

  pub first_there : (n : ℕ) {i : ℕ} → i < n → c i ≡ true → first_that c n < n
  first_there zero l e = absurd (omega arith)
  first_there (suc n) {i} l e = go (dec_lt (first_that c n) n) (two (c n)) (dec_lt i n) (λ k. first_there n k e)
    where
      go : Dec (first_that c n < n) → (c n ≡ true) ⊎ (c n ≡ false) → Dec (i < n) → (i < n → first_that c n < n) → first_that c (suc n) < suc n
      go (yes v) d k f = let z : first_that c (suc n) ≡ first_that c n = rw (lt-ltb (first_that c n) n v) in omega arith
      go (no v) (inl q) k f = let z : first_that c (suc n) ≡ n = rw (le-ltb (first_that c n) n (omega arith), q) in omega arith
      go (no v) (inr q) (yes k) f = absurd (v (f k))
      go (no v) (inr q) (no k) f = let z : n ≡ i = omega arith in contra (sym q ∙ subst (λ (x : ℕ). c x ≡ true) (sym z) e)

  pub first_passes : (n : ℕ) {i : ℕ} → i < n → c i ≡ true → (first_that c n < n) × (c (first_that c n) ≡ true)
  first_passes n l e = let u = first_there n l e in (u, first_found n u)

-- ---- counts

module _ {g : List TopLevel} {s : Outline} {p : Table} (reads : Reads s p g) where
  pub row_of : (q : ℕ) → q < s.count → (r : Row) × At (flatten g) q r
  row_of q l = let e = reads.count in at_index (flatten g) q (omega arith)

  pub below : {q : ℕ} {r : Row} → At (flatten g) q r → q < s.count
  below h = let e = reads.count in let l = index_of h in omega arith

  counts : (c : ℕ → Bool) (k : ℕ) → k ≤ s.count → counted c s.kind k ≡ count_to c g k
  counts c zero l = sym (tally_start (by_kind c) (each top_rows g))
  counts c (suc k) l =
      let r = row_of k (omega arith) in
      let h = counts c k (omega arith) in
      let e = ap (λ (z : ℕ). one_if (c z)) (reads.kind r.1) in
      let n = tally_next (by_kind c) (subst (λ (z : List Row). At z k r.0) (flat_each g) r.1) in
      omega arith

  whole : (c : ℕ → Bool) → counted c s.kind s.count ≡ tally (by_kind c) (each top_rows g)
  whole c =
      let e = reads.count in
      counts c s.count (omega arith) ∙ ap (count_to c g) (e ∙ ap length (flat_each g)) ∙ tally_end (by_kind c) (each top_rows g)

  pub tasks_in_all : tasks_before s s.count ≡ length (tasks g)
  tasks_in_all = whole task_kind ∙ all_tasks g

  pub items_in_all : items_before s s.count ≡ length (data_items g)
  items_in_all = whole is_data ∙ all_items g

  -- ---- the rows of tasks and data items

  module _ {k j T : ℕ} {t : Task} (h : Stands g k j T t) where
    pub head_row_of : At (flatten g) j (head_row (task t))
    head_row_of = in_flat {g = g} h.piece at_first j (omega arith)

    in_count : j ≤ s.count
    in_count = let l = below head_row_of in omega arith

    pub tasks_at : tasks_before s j ≡ T
    tasks_at = counts task_kind j in_count ∙ h.tasks

    pub sources_at : sources_before s j ≡ before sources_of T (tasks g)
    sources_at = counts is_source j in_count ∙ h.sources

    pub assignments_at : assignments_before s j ≡ before assignments_of T (tasks g)
    assignments_at = counts is_assignment j in_count ∙ h.assignments

    pub is_head : task_kind (s.kind j) ≡ true
    is_head = ap task_kind (reads.kind head_row_of) ∙ class_task t.class

    pub head_spelt : s.spelt j ≡ t.named.spelt
    head_spelt = reads.spelt head_row_of refl

  module _ {k j i : ℕ} {d : DataItem} (h : ItemStands g k j i d) where
    pub item_row_of : At (flatten g) j (head_row (data_item d))
    item_row_of = in_flat {g = g} h.piece at_first j (omega arith)

    pub items_at : items_before s j ≡ i
    items_at = counts is_data j (let l = below item_row_of in omega arith) ∙ h.items

    pub is_item : is_data (s.kind j) ≡ true
    is_item = ap is_data (reads.kind item_row_of)

    pub item_spelt : s.spelt j ≡ d.named.spelt
    item_spelt = reads.spelt item_row_of refl

  -- a row of these kinds is one of these
  pub record Head (q : ℕ) : Type 0 where
    pub k : ℕ
    pub T : ℕ
    pub t : Task
    pub stands : Stands g k q T t

  pub head_seen : (q : ℕ) → q < s.count → task_kind (s.kind q) ≡ true → Head q
  head_seen q l e = let r = row_of q l in go r.1 (seen g r.1) (ap task_kind (sym (reads.kind r.1)) ∙ e)
    where
      go : {r : Row} → At (flatten g) q r → Seen g q r → task_kind (kind-of r) ≡ true → Head q
      go h (a_task_head {k} {T} {t} z i) f = record { k = k; T = T; t = t; stands = z }
      go h (an_item_head z i) f = contra (sym (ap (λ (x : Row). task_kind (kind-of x)) i) ∙ f)
      go h (in_a_task {t = t} o) f = contra (sym (no_task_in (task t) _ _ (in_body o)) ∙ f)
      go h (in_an_item d {m} i) f = contra (sym (no_task_in (data_item d) m _ i) ∙ f)

  pub record ItemHead (q : ℕ) : Type 0 where
    pub k : ℕ
    pub i : ℕ
    pub d : DataItem
    pub stands : ItemStands g k q i d

  pub item_seen : (q : ℕ) → q < s.count → is_data (s.kind q) ≡ true → ItemHead q
  item_seen q l e = let r = row_of q l in go r.1 (seen g r.1) (ap is_data (sym (reads.kind r.1)) ∙ e)
    where
      go : {r : Row} → At (flatten g) q r → Seen g q r → is_data (kind-of r) ≡ true → ItemHead q
      go h (a_task_head {t = t} z i) f = contra (sym (class_no t.class) ∙ sym (ap (λ (x : Row). is_data (kind-of x)) i) ∙ f)
        where
          class_no : (k : Structure.Class) → is_data (class_word k) ≡ false
          class_no Structure.plan = refl
          class_no Structure.action = refl
          class_no Structure.enquiry = refl
      go h (an_item_head {k} {i} {d} z j) f = record { k = k; i = i; d = d; stands = z }
      go h (in_a_task {t = t} o) f = contra (sym (no_item_in (task t) _ _ (in_body o)) ∙ f)
      go h (in_an_item d {m} i) f = contra (sym (no_item_in (data_item d) m _ i) ∙ f)

  -- ---- the rows of attributes

  module _ {q T l m : ℕ} {t : Task} {b : Placed Attribute} {r : Row} (w : Owned g q T t l b m r) where
    owned_count : q ≤ s.count
    owned_count = let z = below (owned_row w) in omega arith

    pub tasks_owned : tasks_before s q ≡ suc T
    tasks_owned = counts task_kind q owned_count ∙ tasks_here w

    pub sources_owned : sources_before s q ≡ before sources_of T (tasks g) + (before of_source l t.attributes + tally_to (by_kind is_source) (own_rows b) m)
    sources_owned = counts is_source q owned_count ∙ sources_here w

    pub assignments_owned : assignments_before s q ≡ before assignments_of T (tasks g) + (before of_assigned l t.attributes + tally_to (by_kind is_assignment) (own_rows b) m)
    assignments_owned = counts is_assignment q owned_count ∙ assignments_here w

    -- what there was where its task began
    at_task_owned : (c : ℕ → Bool) → at_task s c q ≡ counted c s.kind w.j
    at_task_owned c =
        last_put (at_task s c) (λ k. task_kind (s.kind k)) (λ k. counted c s.kind k) (λ k. refl) q
        (let e = w.index in omega arith) (is_head w.stands)
        (λ i a z. let n = no_task_between w i a z in ap task_kind (reads.kind n.1) ∙ n.2)

    pub at_task_sources : at_task s is_source q ≡ before sources_of T (tasks g)
    at_task_sources = at_task_owned is_source ∙ sources_at w.stands

    pub at_task_assignments : at_task s is_assignment q ≡ before assignments_of T (tasks g)
    at_task_assignments = at_task_owned is_assignment ∙ assignments_at w.stands

  -- the task that the component of a row names
  pub child_owned : {q T l i : ℕ} {t : Task} {b : Placed Attribute} {r : Row} {n : Name} {xs : List (Placed ComponentAttribute)} → Owned g q T t l b (suc i) r → b.what ≡ Structure.component n xs
      → child s q ≡ task_named s n.spelt
  child_owned {q} {i = i} {b = b} {n = n} {xs} w is =
      last_put (child s) (λ k. eqb (s.kind k) “component”) (λ k. task_named s (s.spelt k)) (λ k. refl) q {j = suc (w.j + (w.o + 0))}
      (let e = w.index in omega arith)
      (eq-eqb (s.kind (suc (w.j + (w.o + 0)))) “component” (reads.kind first ∙ ap (λ (a : Attribute). kind-of (first_row b.word a)) is))
      (λ k a z. between k a z)
      ∙ ap (task_named s) (reads.spelt first (ap (λ (a : Attribute). name_of (first_row b.word a)) is))
    where
      first : At (flatten g) (suc (w.j + (w.o + 0))) (first_row b.word b.what)
      first = owned_row (first_owned w)

      rows : own_rows b ≡ attribute_rows b.word (Structure.component n xs)
      rows = ap (attribute_rows b.word) is

      sub_at : {m : ℕ} {r : Row} → At (attribute_rows b.word (Structure.component n xs)) (suc m) r → Sub r
      sub_at (at_later h) = placed_sub component_row component_sub xs h

      between : (k : ℕ) → suc (w.j + (w.o + 0)) < k → k < q → eqb (s.kind k) “component” ≡ false
      between k a z =
          let e = w.index in
          let v = index_of w.at in
          let u = at_index (own_rows b) (suc (k - suc (suc (w.j + w.o)))) (omega arith) in
          let o : Owned g k _ _ _ b (suc (k - suc (suc (w.j + w.o)))) u.0 = record { k = w.k; j = w.j; o = w.o; stands = w.stands; piece = w.piece; at = u.1; index = omega arith } in
          ap (λ (x : ℕ). eqb x “component”) (reads.kind (owned_row o)) ∙ sub_not “component” refl (sub_at (subst (λ (x : List Row). At x (suc (k - suc (suc (w.j + w.o)))) u.0) rows u.1))

  -- ---- names

  module _ (lawful : Lawful g) where
    pub task_found : {T : ℕ} {t : Task} (v : List ℕ) → At (tasks g) T t → v ≡ t.named.spelt → (task_named s v ≡ T) × (s.kind (task_row s v) ≡ class_word t.class)
    task_found {T} {t} v h e =
        let x = stands_of g h in
        let f = first_passes (λ (i : ℕ). task_kind (s.kind i) && sameb (s.spelt i) v) s.count {i = x.1} (below (head_row_of x.2))
        (both _ _ (is_head x.2) (reflects_true (same_reflects (s.spelt x.1) v) (head_spelt x.2 ∙ sym e))) in
        let y = head_seen (task_row s v) f.0 (and_l (task_kind (s.kind (task_row s v))) _ f.1) in
        let n = true_reflects (same_reflects (s.spelt (task_row s v)) v) (and_r (task_kind (s.kind (task_row s v))) _ f.1) in
        let z : y.T ≡ T = task_once lawful y.stands.at h (sym (head_spelt y.stands) ∙ n ∙ e) in
        let w : y.t ≡ t = at_one (subst (λ (i : ℕ). At (tasks g) i y.t) z y.stands.at) h in
        (tasks_at y.stands ∙ z, reads.kind (head_row_of y.stands) ∙ ap (λ (k : Task). class_word k.class) w)

    pub item_found : {i : ℕ} {d : DataItem} (v : List ℕ) → At (data_items g) i d → v ≡ d.named.spelt → item_named s v ≡ i
    item_found {i} {d} v h e =
        let x = item_of g h in
        let c = first_that (λ (i : ℕ). is_data (s.kind i) && sameb (s.spelt i) v) s.count in
        let f = first_passes (λ (i : ℕ). is_data (s.kind i) && sameb (s.spelt i) v) s.count {i = x.1} (below (item_row_of x.2))
        (both _ _ (is_item x.2) (reflects_true (same_reflects (s.spelt x.1) v) (item_spelt x.2 ∙ sym e))) in
        let y = item_seen c f.0 (and_l (is_data (s.kind c)) _ f.1) in
        let n = true_reflects (same_reflects (s.spelt c) v) (and_r (is_data (s.kind c)) _ f.1) in
        items_at y.stands ∙ item_once lawful y.stands.at h (sym (item_spelt y.stands) ∙ n ∙ e)

    pub alike_found : {i : ℕ} {d : DataItem} (v : List ℕ) → At (data_items g) i d → Alike v d.named.spelt → item_alike s v ≡ i
    alike_found {i} {d} v h e =
        let x = item_of g h in
        let c = first_that (λ (i : ℕ). is_data (s.kind i) && alikeb (s.spelt i) v) s.count in
        let f = first_passes (λ (i : ℕ). is_data (s.kind i) && alikeb (s.spelt i) v) s.count {i = x.1} (below (item_row_of x.2))
        (both _ _ (is_item x.2) (reflects_true (alike_reflects (s.spelt x.1) v) (ap folded (item_spelt x.2) ∙ sym e))) in
        let y = item_seen c f.0 (and_l (is_data (s.kind c)) _ f.1) in
        let n = true_reflects (alike_reflects (s.spelt c) v) (and_r (is_data (s.kind c)) _ f.1) in
        let a : Alike y.d.named.spelt d.named.spelt = ap folded (sym (item_spelt y.stands)) ∙ n ∙ e in
        items_at y.stands ∙ at_most (λ l. lawful.names _ (data_item_twice l y.stands.at h a)) (λ l. lawful.names _ (data_item_twice l h y.stands.at (sym a)))
