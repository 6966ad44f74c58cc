-- A sheet that agrees with the rows of a guideline: its tasks, data items, components, sources and assignments and their rows, both ways and in order.
-- By what is selected from the rows.
use Rattle.std.specs.Prelude.{ℕ, zero, suc, ◌+◌, ◌≤◌, ◌<◌, ◌≡◌, refl, Bool, true, false, cond, ◌||◌, not, ◌⊎◌, List, [], ◌∷◌, ◌++◌, map, eqb, length}
use Rattle.std.proofs.Common.{sym, ap, subst, ◌∙◌, inl, inr, ⊎_elim, arith, eqb-true, eq-eqb}
use Rattle.std.proofs.Math.Option.{Option, none, some}
use Rattle.std.proofs.Math.Decide.{dec_lt}
use Rattle.paper_expressions.specs.View.{At, at_first, at_later}
use Rattle.paper_expressions.proofs.Laws.Tests.{contra, two, every, and_l, and_r, or_cases, or_l, or_r}
use Rattle.paper_expressions.proofs.Laws.Search.{no_clash, at_one}
use Rattle.parts.specs.ItemLaws.{at_index, index_of}
use Rattle.paper_tokens.specs.Tokens.{“data”, “=”, “component”, “source”}
use Rattle.paper_grammar.proofs.Laws.Ll.{is_in}
use Rattle.paper_guideline.specs.Structure.{Name, Task, DataItem, TopLevel, task, data_item, tasks, data_items}
use Rattle.guideline_rows.specs.Rows
use Rows.{Row, flatten, kind-of, name_of, attributes_rows, generic_row, placed_rows}
use Rattle.row_names.specs.Pieces.{Piece, piece_first, piece_later, piece_at, in_whole, Located, locate, in_order, Mapped, map_at, at_map}
use Rattle.row_names.specs.Selected.{select, Kept, kept_here, kept_past, kept_over, kept_at, kept_of, kept_rank, kept_index, rise, rank_rise}
use Rattle.row_names.specs.Sheet
use Sheet.{Sheet, task_kind, head_kind}
use Rattle.row_names.specs.Flat
use Flat.{head_row, body, top_rows, flat_each, Inside, named_kind, is_there, body_inside, head_is_head, of_kind, of_kind_some, of_kind_is, task-names, class_task, task_head}

-- ---- definition

pub record Agrees (s : Sheet) (rows : List Row) : Type 0 where
  pub count : s.count ≡ length rows
  pub kind : {i : ℕ} {r : Row} → At rows i r → s.kind i ≡ kind-of r
  pub word : {i : ℕ} {r : Row} → At rows i r → s.word i ≡ Rows.word_of r
  pub spelt : {i : ℕ} {r : Row} {n : Name} → At rows i r → name_of r ≡ some n → s.spelt i ≡ n.spelt
  pub place : {i : ℕ} {r : Row} {n : Name} → At rows i r → name_of r ≡ some n → s.place i ≡ n.place

-- ---- tests on lists of kinds

pub in_list : (f : ℕ → Bool) (l : List ℕ) (k : ℕ) → every f l ≡ true → is_in k l ≡ true → f k ≡ true
in_list f [] k e h = contra h
in_list f (x ∷ l) k e h = ⊎_elim
    (λ (q : eqb k x ≡ true). subst (λ (z : ℕ). f z ≡ true) (sym (eqb-true k x q)) (and_l (f x) (every f l) e))
    (λ q. in_list f l k (and_r (f x) (every f l) e) q)
    (or_cases (eqb k x) (is_in k l) h)

-- ---- a row of a guideline, in its piece

pub top_of : (g : List TopLevel) {j : ℕ} {r : Row} → At (flatten g) j r → Located top_rows g j r
top_of g {j} {r} h = locate top_rows g j (subst (λ (l : List Row). At l j r) (flat_each g) h)

pub in_flat : {g : List TopLevel} {k o m : ℕ} {x : TopLevel} {r : Row} → Piece top_rows g k o x → At (top_rows x) m r → (i : ℕ) → i ≡ o + m → At (flatten g) i r
in_flat {g} {r = r} p h i e = subst (λ (l : List Row). At l i r) (sym (flat_each g)) (in_whole p h i e)

head_named : (x : TopLevel) → (n : Name) × (name_of (head_row x) ≡ some n)
head_named (task t) = (t.named, refl)
head_named (data_item d) = (d.named, refl)

there_some : (o : Option Name) → is_there o ≡ true → (n : Name) × (o ≡ some n)
there_some none e = contra e
there_some (some n) e = (n, refl)

named_in : (x : TopLevel) {m : ℕ} {r : Row} → At (top_rows x) m r → (head_kind (kind-of r) || named_kind (kind-of r)) ≡ true → (n : Name) × (name_of r ≡ some n)
named_in x at_first e = head_named x
named_in x {r = r} (at_later k) e =
    let i = body_inside x k in
    there_some (name_of r) (sym i.names ∙ ⊎_elim (λ q. contra (sym i.plain ∙ q)) (λ q. q) (or_cases (head_kind (kind-of r)) (named_kind (kind-of r)) e))

-- a row whose kind has a name has one
pub row_named : (g : List TopLevel) {j : ℕ} {r : Row} → At (flatten g) j r → (head_kind (kind-of r) || named_kind (kind-of r)) ≡ true → (n : Name) × (name_of r ≡ some n)
row_named g h e = let p = top_of g h in named_in p.element p.at e

-- ---- what a test chooses: things of one kind, and their rows

module _ (g : List TopLevel) (s : Sheet) (a : Agrees s (flatten g)) where
  pub row_at : (j : ℕ) → j < s.count → (r : Row) × At (flatten g) j r
  row_at j l = let e = a.count in at_index (flatten g) j (omega arith)

  pub inside_sheet : {j : ℕ} {r : Row} → At (flatten g) j r → j < s.count
  inside_sheet h = let e = a.count in omega (arith, index_of h)

  module _ (c : ℕ → Bool) where
    -- the i-th name that is chosen is that of the row j
    pub record RowOf (i j : ℕ) (n : Name) : Type 0 where
      pub kept : Kept (of_kind c) (flatten g) i j n
      pub below : j < s.count
      pub kind : c (s.kind j) ≡ true
      pub spelt : s.spelt j ≡ n.spelt
      pub place : s.place j ≡ n.place

    pub row_of : {i j : ℕ} {n : Name} → Kept (of_kind c) (flatten g) i j n → RowOf i j n
    row_of {j = j} k =
        let r = kept_index (of_kind c) k in
        let e = of_kind_is c r.0 r.2 in
        record {
          kept = k;
          below = inside_sheet r.1;
          kind = subst (λ (z : ℕ). c z ≡ true) (sym (a.kind r.1)) e.0;
          spelt = a.spelt r.1 e.1;
          place = a.place r.1 e.1;
        }

    pub one_row : {i j m : ℕ} {n o : Name} → Kept (of_kind c) (flatten g) i j n → Kept (of_kind c) (flatten g) i m o → j ≡ m
    one_row {j = j} {m} p q = go (dec_lt j m) (dec_lt m j)
      where
        go : Dec (j < m) → Dec (m < j) → j ≡ m
        go (yes l) d = absurd (let z = rank_rise (of_kind c) p q l in omega arith)
        go (no l) (yes u) = absurd (let z = rank_rise (of_kind c) q p u in omega arith)
        go (no l) (no u) = omega arith

    pub one_rank : {i j m : ℕ} {n o : Name} → Kept (of_kind c) (flatten g) i j n → Kept (of_kind c) (flatten g) m j o → i ≡ m
    one_rank {i} {m = m} p q = go (dec_lt i m) (dec_lt m i)
      where
        go : Dec (i < m) → Dec (m < i) → i ≡ m
        go (yes l) d = absurd (let z = rise (of_kind c) p q l in omega arith)
        go (no l) (yes u) = absurd (let z = rise (of_kind c) q p u in omega arith)
        go (no l) (no u) = omega arith

    module _ {A : Type 0} (name : A → Name) (things : List A) (chosen : select (of_kind c) (flatten g) ≡ map name things) where
      pub thing_row : {i : ℕ} {x : A} → At things i x → (j : ℕ) × RowOf i j (name x)
      thing_row {i} {x} h =
          let r = kept_at (of_kind c) (flatten g) i (name x) (subst (λ (l : List Name). At l i (name x)) (sym chosen) (at_map name h)) in
          (r.0, row_of r.1)

      module _ (named : (k : ℕ) → c k ≡ true → (head_kind k || named_kind k) ≡ true) where
        pub record Thing (j : ℕ) : Type 0 where
          pub i : ℕ
          pub thing : A
          pub at : At things i thing
          pub row : RowOf i j (name thing)

        pub row_thing : (j : ℕ) → j < s.count → c (s.kind j) ≡ true → Thing j
        row_thing j l e =
            let r = row_at j l in
            let q : c (kind-of r.0) ≡ true = subst (λ (z : ℕ). c z ≡ true) (a.kind r.1) e in
            let n = row_named g r.1 (named (kind-of r.0) q) in
            let k = kept_of (of_kind c) r.1 (of_kind_some c r.0 q n.1) in
            let m = map_at name things (subst (λ (z : List Name). At z k.0 n.0) chosen (kept_rank (of_kind c) k.1)) in
            record { i = k.0; thing = m.from; at = m.at; row = subst (λ (z : Name). RowOf k.0 j z) m.is (row_of k.1) }

-- ---- tasks, with their pieces

kept_skip : {A B : Type 0} (f : A → Option B) (l : List A) {rs : List A} {k j : ℕ} {b : B}
    → ((i : ℕ) (x : A) → At l i x → f x ≡ none) → Kept f rs k j b → (q : ℕ) → q ≡ length l + j → Kept f (l ++ rs) k q b
kept_skip f [] {rs} {k} {j} {b} h p q e = subst (λ (z : ℕ). Kept f rs k z b) (let z : j ≡ q = omega arith in z) p
kept_skip f (x ∷ l) h p zero e = absurd (omega arith)
kept_skip f (x ∷ l) h p (suc q) e = kept_over (h 0 x at_first) (kept_skip f l (λ i y m. h (suc i) y (at_later m)) p q (omega arith))

pub record Stand (g : List TopLevel) (i j : ℕ) (t : Task) : Type 0 where
  pub k : ℕ
  pub piece : Piece top_rows g k j (task t)
  pub kept : Kept (of_kind task_kind) (flatten g) i j t.named

body_none : (x : TopLevel) (i : ℕ) (r : Row) → At (body x) i r → of_kind task_kind r ≡ none
body_none x i r h = rw (task_head (kind-of r) (body_inside x h).plain)

stand_later : (u : Task) (g : List TopLevel) {i j : ℕ} {t : Task} → Stand g i j t → Stand (task u ∷ g) (suc i) (length (top_rows (task u)) + j) t
stand_later u g {i} {j} {t} r = record {
  k = suc r.k;
  piece = piece_later r.piece;
  kept = subst (λ (z : ℕ). Kept (of_kind task_kind) (flatten (task u ∷ g)) (suc i) z t.named)
      (let z : suc (length (body (task u)) + j) ≡ length (top_rows (task u)) + j = omega arith in z)
      (kept_past (of_kind_some task_kind (head_row (task u)) (class_task u.class) refl)
      (kept_skip (of_kind task_kind) (body (task u)) (body_none (task u)) r.kept (length (body (task u)) + j) refl));
}

stand_over : (d : DataItem) (g : List TopLevel) {i j : ℕ} {t : Task} → Stand g i j t → Stand (data_item d ∷ g) i (length (top_rows (data_item d)) + j) t
stand_over d g {i} {j} {t} r = record {
  k = suc r.k;
  piece = piece_later r.piece;
  kept = subst (λ (z : ℕ). Kept (of_kind task_kind) (flatten (data_item d ∷ g)) i z t.named)
      (let z : suc (length (body (data_item d)) + j) ≡ length (top_rows (data_item d)) + j = omega arith in z)
      (kept_over refl (kept_skip (of_kind task_kind) (body (data_item d)) (body_none (data_item d)) r.kept (length (body (data_item d)) + j) refl));
}

stand_next : (u : Task) (g : List TopLevel) {i : ℕ} {t : Task} → At (u ∷ tasks g) i t → ((m : ℕ) → At (tasks g) m t → (j : ℕ) × Stand g m j t) → (j : ℕ) × Stand (task u ∷ g) i j t
stand_next u g at_first f = (0, record { k = 0; piece = piece_first; kept = kept_here (of_kind_some task_kind (head_row (task u)) (class_task u.class) refl) })
stand_next u g (at_later {i = m} k) f = let r = f m k in (length (top_rows (task u)) + r.0, stand_later u g r.1)

pub stand_of : (g : List TopLevel) (i : ℕ) (t : Task) → At (tasks g) i t → (j : ℕ) × Stand g i j t
stand_of [] i t h = elim h [ ]
stand_of (task u ∷ g) i t h = stand_next u g h (λ m k. stand_of g m t k)
stand_of (data_item d ∷ g) i t h = let r = stand_of g i t h in (length (top_rows (data_item d)) + r.0, stand_over d g r.1)
