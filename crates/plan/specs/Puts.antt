-- A cell that is written to a table that holds a plan: no two columns share a cell, by a test of all pairs of columns.
use Rattle.std.specs.Prelude.{ℕ, zero, suc, ◌+◌, ◌-◌, ◌≤◌, ◌<◌, ◌≡◌, refl, Bool, true, false, cond, ◌&&◌, ◌||◌, ◌⊎◌, List, [], ◌∷◌, eqb, ltb, leb, length, get_or, set}
use Rattle.std.proofs.Common.{sym, ap, subst, ◌∙◌, ⊎_elim, arith, length-set, get_or-set_same, get_or-set_other, eqb-true, leb-true, eq-eqb}
use Rattle.std.proofs.Math.Decide.{dec_lt}
use Rattle.paper_expressions.proofs.Laws.Tests.{contra, both, and_l, and_r, or_cases, every}
use Rattle.paper_grammar.proofs.Laws.Ll.{is_in}
use Rattle.row_names.specs.Agreement.{in_list}
use Rattle.plan.specs.Writes
use Writes.{Column, task_count, item_count, parent, triggered, terminal, order, confirms, class, first_source, source_count, source_item, mandatory, precondition, wait_condition, terminate, first_assignment, assignment_count, target, assigned-end, name, trigger, item_name, item_type, assigned_by}
use Writes.{first, room, room_at, Cells, Entry, enter, write}
use Rattle.plan.specs.Filled.{plan_cells, Held}

-- ---- where columns begin

abbrev starts : List ℕ
starts = 0 ∷ 1 ∷ 8 ∷ 40 ∷ 72 ∷ 104 ∷ 136 ∷ 168 ∷ 200 ∷ 232 ∷ 264 ∷ 392 ∷ 520 ∷ 552 ∷ 584 ∷ 616 ∷ 648 ∷ 680 ∷ 936 ∷ 1192 ∷ 1224 ∷ 1256 ∷ 1320 ∷ 1384 ∷ []

begins : (p : Column) → is_in (first p) starts ≡ true
begins task_count = refl
begins item_count = refl
begins parent = refl
begins triggered = refl
begins terminal = refl
begins order = refl
begins confirms = refl
begins class = refl
begins first_source = refl
begins source_count = refl
begins source_item = refl
begins mandatory = refl
begins precondition = refl
begins wait_condition = refl
begins terminate = refl
begins first_assignment = refl
begins assignment_count = refl
begins target = refl
begins assigned-end = refl
begins name = refl
begins trigger = refl
begins item_name = refl
begins item_type = refl
begins assigned_by = refl

-- the column that begins at a and the one that begins at b are one, or stand one behind the other
abbrev apart : ℕ → ℕ → Bool
apart a b = eqb a b || (leb (a + room_at a) b || leb (b + room_at b) a)

-- its cells are of the plan, and none is spare
abbrev inside : ℕ → Bool
inside a = leb (a + room_at a) plan_cells && (leb 8 a || leb (a + room_at a) 2)

abbrev apart_from : ℕ → Bool
apart_from a = every (apart a) starts

all_apart : (p q : Column) → apart (first p) (first q) ≡ true
all_apart p q = in_list (apart (first p)) starts (first q) (in_list apart_from starts (first p) refl (begins p)) (begins q)

all_inside : (p : Column) → inside (first p) ≡ true
all_inside p = in_list inside starts (first p) refl (begins p)

-- a cell is in one column, at one index
pub one_cell : (p q : Column) (i j : ℕ) → i < room p → j < room q → first p + i ≡ first q + j → (first p ≡ first q) × (i ≡ j)
one_cell p q i j u v e = ⊎_elim
    (λ h. let z = eqb-true (first p) (first q) h in (z, omega arith))
    (λ h. ⊎_elim
    (λ k. absurd (let z = leb-true (first p + room p) (first q) k in omega arith))
    (λ k. absurd (let z = leb-true (first q + room q) (first p) k in omega arith))
    (or_cases (leb (first p + room p) (first q)) (leb (first q + room q) (first p)) h))
    (or_cases (eqb (first p) (first q)) (leb (first p + room p) (first q) || leb (first q + room q) (first p)) (all_apart p q))

ends_inside : (p : Column) → first p + room p ≤ plan_cells
ends_inside p = leb-true (first p + room p) plan_cells (and_l (leb (first p + room p) plan_cells) (leb 8 (first p) || leb (first p + room p) 2) (all_inside p))

not_spare : (p : Column) (i c : ℕ) → i < room p → 2 ≤ c → c < 8 → ¬ (c ≡ first p + i)
not_spare p i c u l h e = ⊎_elim
    (λ k. let z = leb-true 8 (first p) k in omega arith)
    (λ k. let z = leb-true (first p + room p) 2 k in omega arith)
    (or_cases (leb 8 (first p)) (leb (first p + room p) 2) (and_r (leb (first p + room p) plan_cells) (leb 8 (first p) || leb (first p + room p) 2) (all_inside p)))

-- ---- one cell is written

either : {x v y : ℕ} (b : Bool) → (b ≡ true → x ≡ v) → (b ≡ false → x ≡ y) → x ≡ cond b v y
either true f g = f refl
either false f g = g refl

same_room : (p q : Column) → first p ≡ first q → room p ≡ room q
same_room p q e = ap room_at e

module _ {m : Cells} {f : List ℕ} (h : Held m f) (p : Column) (i v : ℕ) where
  held_in : i < room p → Held (write (enter p i v) m) (set f (first p + i) v)
  held_in u = record {
    long = let z = h.long in simp length-set z;
    cells = λ q j w. either (eqb (first p) (first q) && eqb i j) (here q j) (other q j w);
    spare = λ c a b. get_or-set_other f (first p + i) c v 0 (not_spare p i c u a b) ∙ h.spare c a b;
    beyond = λ c a. get_or-set_other f (first p + i) c v 0 (λ e. let z = ends_inside p in omega arith) ∙ h.beyond c a;
  }
    where
      here : (q : Column) (j : ℕ) → (eqb (first p) (first q) && eqb i j) ≡ true → get_or (set f (first p + i) v) (first q + j) 0 ≡ v
      here q j e =
          let a = eqb-true (first p) (first q) (and_l (eqb (first p) (first q)) (eqb i j) e) in
          let b = eqb-true i j (and_r (eqb (first p) (first q)) (eqb i j) e) in
          let z : first p + i ≡ first q + j = omega arith in
          subst (λ (k : ℕ). get_or (set f (first p + i) v) k 0 ≡ v) z (get_or-set_same f (first p + i) v 0 (let y = ends_inside p in let l = h.long in omega arith))

      other : (q : Column) (j : ℕ) → j < room q → (eqb (first p) (first q) && eqb i j) ≡ false → get_or (set f (first p + i) v) (first q + j) 0 ≡ m q j
      other q j w e =
          get_or-set_other f (first p + i) (first q + j) v 0
          (λ z. let o = one_cell p q i j u w (sym z) in contra (sym e ∙ both (eqb (first p) (first q)) (eqb i j) (eq-eqb (first p) (first q) o.0) (eq-eqb i j o.1)))
          ∙ h.cells q j w

  -- an index that the column has not
  held_out : room p ≤ i → Held (write (enter p i v) m) f
  held_out u = record {
    long = h.long;
    cells = λ q j w. either (eqb (first p) (first q) && eqb i j) (λ e. absurd (none q j w e)) (λ e. h.cells q j w);
    spare = h.spare;
    beyond = h.beyond;
  }
    where
      none : (q : Column) (j : ℕ) → j < room q → (eqb (first p) (first q) && eqb i j) ≡ true → ⊥
      none q j w e =
          let a = same_room p q (eqb-true (first p) (first q) (and_l (eqb (first p) (first q)) (eqb i j) e)) in
          let b = eqb-true i j (and_r (eqb (first p) (first q)) (eqb i j) e) in
          omega arith

-- ---- what the code does: the index i of the column that begins at a and has z cells

abbrev pub Puts : ℕ → ℕ → ℕ → ℕ → List ℕ → List ℕ → Type 0
Puts a z i v before after = (p : Column) (m : Cells) → first p ≡ a → room p ≡ z → Held m before → Held (write (enter p i v) m) after

module _ (a z i v : ℕ) (f : List ℕ) where
  pub puts_out : z ≤ i → Puts a z i v f f
  puts_out u p m ea ez h = held_out h p i v (omega arith)

  pub puts_short : i < z → length f ≤ a → Puts a z i v f f
  puts_short u w p m ea ez h = absurd (let y = ends_inside p in let l = h.long in omega arith)

  pub puts_low : i < z → length f - a ≤ i → Puts a z i v f f
  puts_low u w p m ea ez h = absurd (let y = ends_inside p in let l = h.long in omega arith)

  pub puts_in : i < z → Puts a z i v f (set f (a + i) v)
  puts_in u p m ea ez h = subst (λ (k : ℕ). Held (write (enter p i v) m) (set f (k + i) v)) ea (held_in h p i v (omega arith))
