-- Laws of the totals: a row besides adds what it has of each. By cases on the row, and by induction on the rows before it.
use Rattle.std.specs.Prelude.{ℕ, ◌+◌, ◌≤◌, ◌<◌, ◌≡◌, refl, Bool, true, false, cond, ◌||◌, ◌⊎◌, List, [], ◌∷◌, ◌++◌, eqb, ltb, Option as Maybe, None, Some}
use Rattle.std.proofs.Common.{sym, ap, subst, ◌∙◌, inl, inr, ⊎_elim, arith, length-append, ltb-true, ltb-false, lt-ltb, le-ltb}
use Rattle.std.proofs.Math.Option.{Option, none, some}
use Rattle.paper_expressions.proofs.Laws.Tests.{two, contra}
use Rattle.paper_guideline.specs.Limits.{token_limit}
use Rattle.paper_guideline.specs.Structure.{Outermost}
use Rattle.guideline_rows.specs.Rows.{Row, kind-of, expression_of}
use Rattle.guideline_rows.specs.Sizes.{size_in, end_of}
use Rattle.guideline_rows.specs.Tally.{of_kind, with, row_expressions, LargeAt, here, later}
use Rattle.guideline_rows.specs.EncodedLaws.{sizes_snoc}
use Rattle.guideline_turns.specs.declared.Extent.{Extent}
use Rattle.guideline_turns.specs.declared.Entry.{Entry}
use Rattle.guideline_turns.specs.declared.Passed.{Passed}
use Rattle.guideline_turns.specs.Made.{Sized, Went, end_in, start_in, large_in, Alike, parts_then}
use Rattle.guideline_walk.specs.declared.Totals.{Totals}
use Rattle.guideline_walk.specs.Made.{Tallied, one, least, then_parts, Small, Bound, Adds, Writes}

-- ---- of one kind

kind_snoc : (k : ℕ) (rs : List Row) (row : Row) → of_kind k (rs ++ (row ∷ [])) ≡ of_kind k rs + one (kind-of row) k
kind_snoc k [] row = ⊎_elim (λ (q : eqb (kind-of row) k ≡ true). rw q) (λ (q : eqb (kind-of row) k ≡ false). rw q) (two (eqb (kind-of row) k))
kind_snoc k (r ∷ rs) row =
    let h = kind_snoc k rs row in
    ⊎_elim (λ (q : eqb (kind-of r) k ≡ true). rw q (omega arith)) (λ (q : eqb (kind-of r) k ≡ false). rw q h) (two (eqb (kind-of r) k))

-- ---- parts

pub then_is : (u : ℕ) (x : Maybe Extent) (e : Option Outermost) → Alike x e → end_in x ≡ end_of u e → then_parts u x ≡ u + size_in e
then_is u None none a h = omega arith
then_is u None (some e) a h = absurd a
then_is u (Some x) none a h = absurd a
then_is u (Some x) (some e) a h = h

-- ---- the smallest place

pub least_start : (b : Bool) (p q : ℕ) → b ≡ false → q ≡ least b p q
least_start true p q e = contra (sym e)
least_start false p q e = refl

pub least_earlier : (b : Bool) (p q : ℕ) → b ≡ true → q < p → q ≡ least b p q
least_earlier true p q e h = rw (lt-ltb q p h)
least_earlier false p q e h = contra e

pub least_later : (b : Bool) (p q : ℕ) → b ≡ true → p ≤ q → p ≡ least b p q
least_later true p q e h = rw (le-ltb q p h)
least_later false p q e h = contra e

least_below : (b : Bool) (p q : ℕ) → least b p q ≤ q
least_below true p q = ⊎_elim (λ (h : ltb q p ≡ true). rw h (omega arith)) (λ (h : ltb q p ≡ false). let g = ltb-false q p h in rw h (omega arith)) (two (ltb q p))
least_below false p q = omega arith

least_before : (p q : ℕ) → least true p q ≤ p
least_before p q = ⊎_elim (λ (h : ltb q p ≡ true). let g = ltb-true q p h in rw h (omega arith)) (λ (h : ltb q p ≡ false). rw h (omega arith)) (two (ltb q p))

least_one : (b : Bool) (p q : ℕ) → ((b ≡ true) × (p ≡ least b p q)) ⊎ (q ≡ least b p q)
least_one true p q = ⊎_elim (λ (h : ltb q p ≡ true). inr (rw h)) (λ (h : ltb q p ≡ false). inl (refl, rw h)) (two (ltb q p))
least_one false p q = inr refl

-- ---- large expressions

large_left : {xs : List Outermost} (ys : List Outermost) {q : ℕ} → LargeAt xs q → LargeAt (xs ++ ys) q
large_left ys (here h) = here h
large_left ys (later h) = later (large_left ys h)

large_right : (xs : List Outermost) {ys : List Outermost} {q : ℕ} → LargeAt ys q → LargeAt (xs ++ ys) q
large_right [] h = h
large_right (x ∷ xs) h = later (large_right xs h)

large_split : (xs : List Outermost) {ys : List Outermost} {q : ℕ} → LargeAt (xs ++ ys) q → LargeAt xs q ⊎ LargeAt ys q
large_split [] h = inr h
large_split (x ∷ xs) (here h) = inl (here h)
large_split (x ∷ xs) {ys} {q} (later h) = ⊎_elim (λ (g : LargeAt xs q). inl (later g)) (λ (g : LargeAt ys q). inr g) (large_split xs h)

with_behind : (e : Option Outermost) (xs ys : List Outermost) → with e xs ++ ys ≡ with e (xs ++ ys)
with_behind none xs ys = refl
with_behind (some x) xs ys = refl

expressions_snoc : (rs : List Row) (row : Row) → row_expressions (rs ++ (row ∷ [])) ≡ row_expressions rs ++ with (expression_of row) []
expressions_snoc [] row = refl
expressions_snoc (r ∷ rs) row = ap (with (expression_of r)) (expressions_snoc rs row) ∙ sym (with_behind (expression_of r) (row_expressions rs) (with (expression_of row) []))

-- whether one of the expressions is past a limit, and the smallest place where such a one starts
record Best (xs : List Outermost) (a : Bool) (p : ℕ) : Type 0 where
  some : a ≡ true → LargeAt xs p
  least : (q : ℕ) → LargeAt xs q → (a ≡ true) × (p ≤ q)
  none : a ≡ false → p ≡ 0

module _ {xs : List Outermost} {e : Option Outermost} {p s : ℕ} where
  best_more : (a b : Bool) → Best xs a p → Sized e b s → Best (xs ++ with e []) (a || b) (cond b (least a p s) p)
  best_more a true h z = record {
    some = λ t. ⊎_elim
        (λ (g : (a ≡ true) × (p ≡ least a p s)). subst (LargeAt (xs ++ with e [])) g.1 (large_left (with e []) (h.some g.0)))
        (λ (g : s ≡ least a p s). subst (LargeAt (xs ++ with e [])) g (large_right xs (z.some refl)))
        (least_one a p s);
    least = λ q t. (
      or_true a,
      ⊎_elim
          (λ (g : LargeAt xs q). let m = h.least q g in let l = least_before p s in let i = ap (λ (c : Bool). least c p s) m.0 in let n = m.1 in omega arith)
          (λ (g : LargeAt (with e []) q). let m = (z.met q g).1 in let l = least_below a p s in omega arith)
          (large_split xs t),
    );
    none = λ t. contra (sym t ∙ or_true a);
  }
    where
      or_true : (a : Bool) → (a || true) ≡ true
      or_true true = refl
      or_true false = refl
  best_more true false h z = record {
    some = λ t. large_left (with e []) (h.some refl);
    least = λ q t. ⊎_elim (λ (g : LargeAt xs q). h.least q g) (λ (g : LargeAt (with e []) q). contra (z.met q g).0) (large_split xs t);
    none = λ t. contra (sym t);
  }
  best_more false false h z = record {
    some = λ t. contra t;
    least = λ q t. ⊎_elim (λ (g : LargeAt xs q). contra (h.least q g).0) (λ (g : LargeAt (with e []) q). contra (z.met q g).0) (large_split xs t);
    none = λ t. h.none refl;
  }

-- ---- one row besides

pub tallied_none : {w : Totals} → w.rows ≡ 0 → w.parts ≡ 0 → w.tasks ≡ 0 → w.items ≡ 0 → w.assignments ≡ 0 → w.sources ≡ 0 → w.large ≡ false → w.place ≡ 0 → Tallied [] w
tallied_none a b c d e f g h = record { count = a; parts = b; tasks = c; items = d; assignments = e; sources = f; some = λ t. contra (sym g ∙ t); least = λ q. elim [ ]; none = λ t. h }

pub tallied_more : {rows : List Row} (row : Row) {w r : Totals} {t : Entry} {o : ℕ} → t.kind ≡ kind-of row → Alike t.expression (expression_of row) → end_in t.expression ≡ end_of w.parts (expression_of row)
    → Sized (expression_of row) (large_in t.expression) (start_in t.expression)
    → Adds w t o r → Tallied rows w → Tallied (rows ++ (row ∷ [])) r
tallied_more {rows} row {w} {r} {t} ek al ee z a h =
    let kinds : (k : ℕ) → of_kind k (rows ++ (row ∷ [])) ≡ of_kind k rows + one t.kind k = λ k. kind_snoc k rows row ∙ ap (λ (j : ℕ). of_kind k rows + one j k) (sym ek) in
    let b = subst (λ (xs : List Outermost). Best xs (w.large || (large_in t.expression)) (cond (large_in t.expression) (least w.large w.place (start_in t.expression)) w.place)) (sym (expressions_snoc rows row))
    (best_more w.large (large_in t.expression) (record { some = h.some; least = h.least; none = h.none }) z) in
    let b' = subst (λ (a : Bool). Best (row_expressions (rows ++ (row ∷ []))) a (cond (large_in t.expression) (least w.large w.place (start_in t.expression)) w.place)) (sym a.large) b in
    let b'' = subst (Best (row_expressions (rows ++ (row ∷ []))) r.large) (sym a.place) b' in
    record {
      count = let n = length-append rows (row ∷ []) in let c = h.count in let d = a.rows in omega arith;
      parts = let n = sizes_snoc rows row in let c = h.parts in let d = a.parts in let e = then_is w.parts t.expression (expression_of row) al ee in omega arith;
      tasks = let x = kinds 49 in let y = kinds 1 in let v = kinds 26 in let c = h.tasks in let d = a.tasks in omega arith;
      items = let x = kinds 18 in let c = h.items in let d = a.items in omega arith;
      assignments = let x = kinds 81 in let c = h.assignments in let d = a.assignments in omega arith;
      sources = let x = kinds 60 in let c = h.sources in let d = a.sources in omega arith;
      some = b''.some;
      least = b''.least;
      none = b''.none;
    }

pub adds_own : {w r : Totals} {t : Entry} {o : ℕ} → Adds w t o r → Adds w t r.bytes r
adds_own a = record {
  ok = a.ok;
  rows = a.rows;
  parts = a.parts;
  bytes = refl;
  tasks = a.tasks;
  items = a.items;
  assignments = a.assignments;
  sources = a.sources;
  large = a.large;
  place = a.place;
}

-- ---- no total is large

one_low : (k j : ℕ) → one k j ≤ 1
one_low k j = ⊎_elim (λ (q : eqb k j ≡ true). rw q (omega arith)) (λ (q : eqb k j ≡ false). rw q (omega arith)) (two (eqb k j))

pub bound_small : {w : Totals} {p : ℕ} → p ≤ token_limit → Bound w p → Small w
bound_small l b = let r = b.rows in record { rows = omega arith; tasks = b.tasks; items = b.items; assignments = b.assignments; sources = b.sources }

bound_by : {text places lengths x y l j b d : List ℕ} {p n : ℕ} {w r : Totals} (o : Maybe Entry) → p < n → parts_then w.parts o ≤ n → Writes text places lengths x y l j b d w o r → Bound w p → Bound r n
bound_by {n = n} None h f q b =
    let b1 = b.rows in
    subst (λ (v : Totals). Bound v n) (sym q.none.0) (record { rows = omega arith; parts = omega arith; tasks = b.tasks; items = b.items; assignments = b.assignments; sources = b.sources })
bound_by (Some t) h f q b =
    let a = q.some.adds in
    let a1 = a.rows in let a2 = a.parts in let a3 = a.tasks in let a4 = a.items in let a5 = a.assignments in let a6 = a.sources in
    let b1 = b.rows in let b3 = b.tasks in let b4 = b.items in let b5 = b.assignments in let b6 = b.sources in
    let o1 = one_low t.kind 49 in let o2 = one_low t.kind 1 in let o3 = one_low t.kind 26 in let o4 = one_low t.kind 18 in let o5 = one_low t.kind 81 in let o6 = one_low t.kind 60 in
    record { rows = omega arith; parts = omega arith; tasks = omega arith; items = omega arith; assignments = omega arith; sources = omega arith }

pub bound_next : {text places lengths x y k l j b d : List ℕ} {p : ℕ} {w r : Totals} {t : Passed} → Went k l p w.parts t → Writes text places lengths x y l j b d w t.row r → Bound w p → Bound r t.next
bound_next {t = t} went q b = bound_by t.row went.on went.few q b
