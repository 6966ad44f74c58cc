-- The loops: the rows up to one, and the order up to a place. By one round more at each turn.
use Rattle.std.specs.Prelude.{ℕ, zero, suc, ◌+◌, ◌-◌, ◌≤◌, ◌<◌, ◌≡◌, refl, Bool, true, false, cond, not, ◌&&◌, ◌||◌, List, eqb, ltb, length, get_or, set, replicate}
use Rattle.std.proofs.Common.{sym, ap, subst, ◌∙◌, ⊎_elim, arith, add-one, length-set, get_or-set_same, get_or-set_other, eqb-true, eq-eqb, ne_eqb}
use Rattle.std.proofs.Math.Decide.{dec_lt}
use Rattle.std.proofs.lemmas.Bool.{eqb-false}
use Rattle.paper_expressions.proofs.Laws.Tests.{two}
use Rattle.row_names.specs.Sheet.{task_kind}
use Rattle.row_names.specs.Flat.{is_data}
use Rattle.name_tests.specs.Lists.{Lists}
use Rattle.plan_cells.specs.declared.spot.Spot.{Spot}
use Rattle.plan.specs.Writes
use Writes.{outline, Column, parent, order, first, room, room_at, Cells, enter, write, store, entries, plan_f, first_that, ready, placed, next, order_f}
use Rattle.plan.specs.Filled.{Held}
use Rattle.plan.specs.Puts.{Puts}
use Rattle.plan_cells.specs.Finds.{First, first_is, first_found, first_none}
use Rattle.plan_cells.specs.Spots.{Stands}
use Rattle.plan_entries.specs.Turns.{Here, putting}

-- ---- the rows

abbrev pub Step : List ℕ → ℕ → List ℕ → List ℕ → ℕ → List ℕ → ℕ → ℕ → Spot → List ℕ → List ℕ → Spot → Type 0
Step x n b tasks m items d k at before after r =
    Here x n b k at → Lists task_kind x n tasks m → Lists is_data x n items d
    → Stands (outline x n b) (suc k) r × ((q : Cells) → Held q before → Held (store (entries (outline x n b) k) q) after)

abbrev pub AllRows : List ℕ → ℕ → List ℕ → List ℕ → ℕ → List ℕ → ℕ → List ℕ → List ℕ → Type 0
AllRows x n b tasks m items d before after =
    n ≤ 65536 → Lists task_kind x n tasks m → Lists is_data x n items d → Held (plan_f (outline x n b) 0) before → Held (plan_f (outline x n b) n) after

module _ (x : List ℕ) (n : ℕ) (b tasks : List ℕ) (m : ℕ) (items : List ℕ) (d : ℕ) (before : List ℕ) where
  -- up to the row k
  abbrev pub RowsTo : ℕ → Spot → List ℕ → Type 0
  RowsTo k at f =
      n ≤ 65536 → Lists task_kind x n tasks m → Lists is_data x n items d
      → Stands (outline x n b) k at × (Held (plan_f (outline x n b) 0) before → Held (plan_f (outline x n b) k) f)

  pub rows_none : {at : Spot} → at.tasks ≡ 0 → at.items ≡ 0 → at.sources ≡ 0 → at.assignments ≡ 0 → at.sourced ≡ 0 → at.assigned ≡ 0 → at.child ≡ 0 → RowsTo 0 at before
  rows_none t i s a u v c l p q = (record { tasks = t; items = i; sources = s; assignments = a; sourced = u; assigned = v; child = c }, λ h. h)

  pub rows_more : (k : ℕ) {at r : Spot} {f g : List ℕ} → k < n → RowsTo k at f → Step x n b tasks m items d k at f g r → RowsTo (k + 1) r g
  rows_more k {at} {r} {f} {g} u h t l p q =
      let w = h l p q in
      let z = t (record { few = l; below = u; stands = w.0 }) p q in (
        subst (λ (j : ℕ). Stands (outline x n b) j r) (sym (add-one k)) z.0,
        λ o. subst (λ (j : ℕ). Held (plan_f (outline x n b) j) g) (sym (add-one k)) (z.1 (plan_f (outline x n b) k) (w.1 o)),
      )

  pub rows_all : (k : ℕ) {at : Spot} {f : List ℕ} → k ≡ n → RowsTo k at f → AllRows x n b tasks m items d before f
  rows_all k {f = f} e h l p q o = subst (λ (j : ℕ). Held (plan_f (outline x n b) j) f) e ((h l p q).1 o)

-- ---- the order

abbrev pub parents_in : List ℕ → ℕ → ℕ
parents_in f T = get_or f (8 + T) 0

abbrev pub placed_in : List ℕ → ℕ → Bool
placed_in l T = eqb (get_or l T 0) 1

pub record Placing (t : ℕ) (before after : List ℕ) : Type 0 where
  pub long : length after ≡ length before
  pub marks : t < length before → (T : ℕ) → placed_in after T ≡ (eqb t T || placed_in before T)

pub placing_in : (t : ℕ) (l : List ℕ) → t < length l → Placing t l (set l t 1)
placing_in t l u = record {
  long = length-set l t 1;
  marks = λ w T. ⊎_elim
      (λ (e : eqb t T ≡ true). rw e (subst (λ (j : ℕ). placed_in (set l t 1) j ≡ true) (eqb-true t T e) (ap (λ (z : ℕ). eqb z 1) (get_or-set_same l t 1 0 u))))
      (λ (e : eqb t T ≡ false). rw e (ap (λ (z : ℕ). eqb z 1) (get_or-set_other l t T 1 0 (λ q. eqb-false t T e (sym q)))))
      (two (eqb t T));
}

pub placing_out : (t : ℕ) (l : List ℕ) → length l ≤ t → Placing t l l
placing_out t l u = record { long = refl; marks = λ w. absurd (omega arith) }

pub first_as : (c d : ℕ → Bool) (n : ℕ) → ((i : ℕ) → i < n → c i ≡ d i) → first_that c n ≡ first_that d n
first_as c d n f = go (first_is d n) (dec_lt (first_that d n) n)
  where
    go : {r : ℕ} → First d n r → Dec (r < n) → first_that c n ≡ r
    go {r} p (yes u) = first_found c n r u (f r u ∙ p.here u) (λ i v. f i (omega arith) ∙ p.before i v)
    go {r} p (no u) =
        let e : n ≡ r = let w = p.within in omega arith in
        first_none c n (λ i v. f i v ∙ p.before i (omega arith)) ∙ e

ready_as : (ps qs : ℕ → ℕ) (pl ql : ℕ → Bool) (T : ℕ) → ps T ≡ qs T → ((X : ℕ) → pl X ≡ ql X) → ready ps pl T ≡ ready qs ql T
ready_as ps qs pl ql T e h =
    ap (λ (z : ℕ). not (pl T) && (eqb z 0 || pl (z - 1))) e
    ∙ ap (λ (b : Bool). not b && (eqb (qs T) 0 || pl (qs T - 1))) (h T)
    ∙ ap (λ (b : Bool). not (ql T) && (eqb (qs T) 0 || b)) (h (qs T - 1))

-- a task that is placed; one without a parent; one whose parent may be placed
module _ (f marks : List ℕ) (t : ℕ) {u : ℕ} (eu : u ≡ get_or marks t 0) where
  pub ready_placed : u ≡ 1 → false ≡ ready (parents_in f) (placed_in marks) t
  ready_placed e = rw (eq-eqb (get_or marks t 0) 1 (sym eu ∙ e)) refl

  pub ready_root : ¬ (u ≡ 1) → {p : ℕ} → p ≡ get_or f (8 + t) 0 → p ≡ 0 → true ≡ ready (parents_in f) (placed_in marks) t
  ready_root n ep e = rw (ne_eqb (get_or marks t 0) 1 (λ q. n (eu ∙ q)), eq-eqb (get_or f (8 + t) 0) 0 (sym ep ∙ e)) refl

  pub ready_under : ¬ (u ≡ 1) → {p v : ℕ} → p ≡ get_or f (8 + t) 0 → ¬ (p ≡ 0) → v ≡ get_or marks (p - 1) 0 → eqb v 1 ≡ ready (parents_in f) (placed_in marks) t
  ready_under n {p} {v} ep e ev =
      rw (ne_eqb (get_or marks t 0) 1 (λ q. n (eu ∙ q)), ne_eqb (get_or f (8 + t) 0) 0 (λ q. e (ep ∙ q)))
      (ap (λ (z : ℕ). eqb z 1) (ev ∙ ap (λ (z : ℕ). get_or marks (z - 1) 0) ep))

-- the first k cells of the order
abbrev pub ordering : (ℕ → ℕ) → ℕ → ℕ → Cells → Cells
ordering ps m zero q = q
ordering ps m (suc k) q = write (enter order k (order_f ps m k)) (ordering ps m k q)

abbrev pub with_order : (ℕ → ℕ) → ℕ → Cells → Cells
with_order ps m q p i = cond (eqb (first order) (first p)) (order_f ps m i) (q p i)

module _ (ps : ℕ → ℕ) (m : ℕ) (q : Cells) where
  order_other : (k : ℕ) (p : Column) (i : ℕ) → eqb (first order) (first p) ≡ false → ordering ps m k q p i ≡ q p i
  order_other zero p i e = refl
  order_other (suc k) p i e = rw e (order_other k p i e)

  order-at : (k : ℕ) (p : Column) (i : ℕ) → eqb (first order) (first p) ≡ true → i < k → ordering ps m k q p i ≡ order_f ps m i
  order-at zero p i e u = absurd (omega arith)
  order-at (suc k) p i e u = ⊎_elim
      (λ (h : eqb k i ≡ true). rw (e, h) (ap (order_f ps m) (eqb-true k i h)))
      (λ (h : eqb k i ≡ false). rw (e, h) (order-at k p i e (below (eqb-false k i h))))
      (two (eqb k i))
    where
      below : ¬ (k ≡ i) → i < k
      below n = go (dec_lt i k)
        where
          go : Dec (i < k) → i < k
          go (yes l) = l
          go (no l) = absurd (n (omega arith))

  -- the whole column
  pub held_order : (k : ℕ) → k ≡ 32 → {f : List ℕ} → Held (ordering ps m k q) f → Held (with_order ps m q) f
  held_order k ek {f} h = record {
    long = h.long;
    cells = λ p i u. h.cells p i u ∙ column p i u;
    spare = h.spare;
    beyond = h.beyond;
  }
    where
      column : (p : Column) (i : ℕ) → i < room p → ordering ps m k q p i ≡ with_order ps m q p i
      column p i u = ⊎_elim
          (λ (e : eqb (first order) (first p) ≡ true). let z : 32 ≡ room p = ap room_at (eqb-true (first order) (first p) e) in order-at k p i e (omega arith) ∙ sym (yes_order p i e))
          (λ (e : eqb (first order) (first p) ≡ false). order_other k p i e ∙ sym (no_order p i e))
          (two (eqb (first order) (first p)))
        where
          yes_order : (p : Column) (i : ℕ) → eqb (first order) (first p) ≡ true → with_order ps m q p i ≡ order_f ps m i
          yes_order p i e = rw e refl

          no_order : (p : Column) (i : ℕ) → eqb (first order) (first p) ≡ false → with_order ps m q p i ≡ q p i
          no_order p i e = rw e refl

abbrev pub Orders : ℕ → List ℕ → List ℕ → Type 0
Orders m before after = (q : Cells) → Held q before → Held (with_order (q parent) m q) after

-- up to the place k
abbrev pub OrderTo : ℕ → List ℕ → ℕ → List ℕ → List ℕ → Type 0
OrderTo m before k f marks =
    (length marks ≡ 64) × ((q : Cells) → Held q before → Held (ordering (q parent) m k q) f × ((T : ℕ) → placed_in marks T ≡ placed (q parent) m k T))

pub order_none : (m : ℕ) (f : List ℕ) → OrderTo m f 0 f (replicate 64 0)
order_none m f = (refl, λ q h. (h, λ T. none T))
  where
    none : (T : ℕ) → placed_in (replicate 64 0) T ≡ false
    none T = ap (λ (z : ℕ). eqb z 1) (blank 64 T)
      where
        blank : (n T : ℕ) → ◌≡◌ {A = ℕ} (get_or (replicate n 0) T 0) 0
        blank zero T = refl
        blank (suc n) zero = refl
        blank (suc n) (suc T) = blank n T

pub order_more : (m k : ℕ) (before f g marks marks' : List ℕ) {t v : ℕ} → m ≤ 32 → OrderTo m before k f marks
    → t ≡ first_that (ready (parents_in f) (placed_in marks)) m → Placing t marks marks' → v ≡ cond (ltb t m) t 0 → Puts 104 32 k v f g → OrderTo m before (k + 1) g marks'
order_more m k before f g marks marks' {t} {v} l o et p ev w = (
  p.long ∙ o.0,
  λ q h. let r = o.1 q h in
      let e = et ∙ agree q h in (
        subst (λ (j : ℕ). Held (ordering (q parent) m j q) g) (sym (add-one k)) (putting w order refl refl refl (ev ∙ ap (λ (z : ℕ). cond (ltb z m) z 0) e) r.0),
        λ T. p.marks few T ∙ ap (λ (z : ℕ). eqb z T || placed_in marks T) e ∙ ap (λ (z : Bool). eqb (next (q parent) m k) T || z) (r.1 T)
            ∙ ap (λ (j : ℕ). placed (q parent) m j T) (sym (add-one k)),
      ),
)
  where
    agree : (q : Cells) → Held q before → first_that (ready (parents_in f) (placed_in marks)) m ≡ next (q parent) m k
    agree q h =
        let r = o.1 q h in
        first_as (ready (parents_in f) (placed_in marks)) (ready (q parent) (placed (q parent) m k)) m
        (λ i u. ready_as (parents_in f) (q parent) (placed_in marks) (placed (q parent) m k) i (r.0.cells parent i (omega arith) ∙ order_other (q parent) m q k parent i refl) r.1)

    few : t < length marks
    few = let z = (first_is (ready (parents_in f) (placed_in marks)) m).within in let n = o.0 in omega arith
