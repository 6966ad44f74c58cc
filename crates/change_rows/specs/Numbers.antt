-- Rows and their numbers, four a row: the rows that are appended are those of the numbers, and the numbers that are taken back are theirs. By the four numbers of a row.
use Rattle.std.specs.Prelude.{ℕ, ◌+◌, ◌*◌, ◌<◌, ◌≤◌, ◌≡◌, refl, List, length, get_or, set}
use Rattle.std.proofs.Common.{arith, ap, subst, ◌∙◌, length-set, get_or-set_same, get_or-set_other}
use Rattle.std.proofs.Math.Decide.{dec_lt}
use Rattle.change_rows.specs.declared.Row.{Row}
use Rattle.change_rows.specs.Blank.{blank}

-- ---- definitions

-- the i-th row of the numbers
abbrev pub row_at : List ℕ → ℕ → Row
row_at q i = record { component = get_or q (4 * i) 0; property = get_or q (4 * i + 1) 0; tag = get_or q (4 * i + 2) 0; number = get_or q (4 * i + 3) 0 }

-- the numbers with the row r as the i-th
abbrev pub written : List ℕ → ℕ → Row → List ℕ
written q i r = set (set (set (set q (4 * i) r.component) (4 * i + 1) r.property) (4 * i + 2) r.tag) (4 * i + 3) r.number

-- the first n rows of zs are those of the numbers q
pub record Appended (n : ℕ) (q : List ℕ) (ys zs : List Row) : Type 0 where
  pub size : length zs ≡ length ys
  pub rows : (i : ℕ) → i < n → get_or zs i blank ≡ row_at q i

-- q are the numbers of the first n rows of ys
pub record Taken (n : ℕ) (ys : List Row) (q : List ℕ) : Type 0 where
  pub size : length q ≡ 2304
  pub rows : (i : ℕ) → i < n → row_at q i ≡ get_or ys i blank

-- ---- one row more

pub appended_none : (q : List ℕ) (ys : List Row) → Appended 0 q ys ys
appended_none q ys = record { size = refl; rows = λ i l. absurd (omega arith) }

pub appended_more : (i : ℕ) (q : List ℕ) (ys zs ws : List Row) → i < length zs → ws ≡ set zs i (row_at q i) → Appended i q ys zs → Appended (i + 1) q ys ws
appended_more i q ys zs ws l e h =
    record { size = ap length e ∙ length-set zs i (row_at q i) ∙ h.size; rows = λ j k. ap (λ (y : List Row). get_or y j blank) e ∙ go j k (dec_lt j i) }
  where
    go : (j : ℕ) → j < i + 1 → Dec (j < i) → get_or (set zs i (row_at q i)) j blank ≡ row_at q j
    go j k (yes z) = get_or-set_other zs i j (row_at q i) blank (λ q. omega arith) ∙ h.rows j z
    go j k (no z) = let e : i ≡ j = omega arith in subst (λ (y : ℕ). get_or (set zs i (row_at q i)) y blank ≡ row_at q y) e (get_or-set_same zs i (row_at q i) blank l)

abbrev made : ℕ → ℕ → ℕ → ℕ → Row
made x y z u = record { component = x; property = y; tag = z; number = u }

rows_as : {x y z u : ℕ} (o : Row) → x ≡ o.component → y ≡ o.property → z ≡ o.tag → u ≡ o.number → made x y z u ≡ o
rows_as {x} {y} {z} {u} o a b c d = ap (λ (k : ℕ). made k y z u) a ∙ ap (λ (k : ℕ). made o.component k z u) b ∙ ap (λ (k : ℕ). made o.component o.property k u) c ∙ ap (made o.component o.property o.tag) d

module _ (q : List ℕ) (i : ℕ) (r : Row) where
  pub written_size : length (written q i r) ≡ length q
  written_size = simp length-set

  abbrev q1 : List ℕ
  q1 = set q (4 * i) r.component

  abbrev q2 : List ℕ
  q2 = set q1 (4 * i + 1) r.property

  abbrev q3 : List ℕ
  q3 = set q2 (4 * i + 2) r.tag

  other : (j : ℕ) → ¬ (j ≡ 4 * i) → ¬ (j ≡ 4 * i + 1) → ¬ (j ≡ 4 * i + 2) → ¬ (j ≡ 4 * i + 3) → get_or (written q i r) j 0 ≡ get_or q j 0
  other j a b c d = get_or-set_other q3 (4 * i + 3) j r.number 0 d ∙ get_or-set_other q2 (4 * i + 2) j r.tag 0 c ∙ get_or-set_other q1 (4 * i + 1) j r.property 0 b ∙ get_or-set_other q (4 * i) j r.component 0 a

  pub written_other : (j : ℕ) → j < i → row_at (written q i r) j ≡ row_at q j
  written_other j l =
      rows_as (row_at q j)
      (other (4 * j) (λ e. omega arith) (λ e. omega arith) (λ e. omega arith) (λ e. omega arith)) (other (4 * j + 1) (λ e. omega arith) (λ e. omega arith) (λ e. omega arith) (λ e. omega arith))
      (other (4 * j + 2) (λ e. omega arith) (λ e. omega arith) (λ e. omega arith) (λ e. omega arith)) (other (4 * j + 3) (λ e. omega arith) (λ e. omega arith) (λ e. omega arith) (λ e. omega arith))

  pub written_there : 4 * i + 4 ≤ length q → row_at (written q i r) i ≡ r
  written_there l =
      rows_as r
      (get_or-set_other q3 (4 * i + 3) (4 * i) r.number 0 (λ e. omega arith) ∙ get_or-set_other q2 (4 * i + 2) (4 * i) r.tag 0 (λ e. omega arith) ∙ get_or-set_other q1 (4 * i + 1) (4 * i) r.property 0 (λ e. omega arith) ∙ get_or-set_same q (4 * i) r.component 0 (omega arith))
      (get_or-set_other q3 (4 * i + 3) (4 * i + 1) r.number 0 (λ e. omega arith) ∙ get_or-set_other q2 (4 * i + 2) (4 * i + 1) r.tag 0 (λ e. omega arith) ∙ get_or-set_same q1 (4 * i + 1) r.property 0 (simp length-set (omega arith)))
      (get_or-set_other q3 (4 * i + 3) (4 * i + 2) r.number 0 (λ e. omega arith) ∙ get_or-set_same q2 (4 * i + 2) r.tag 0 (simp length-set (omega arith)))
      (get_or-set_same q3 (4 * i + 3) r.number 0 (simp length-set (omega arith)))

pub taken_none : (ys : List Row) (q : List ℕ) → length q ≡ 2304 → Taken 0 ys q
taken_none ys q e = record { size = e; rows = λ i l. absurd (omega arith) }

pub taken_more : (i : ℕ) (ys : List Row) (q p : List ℕ) (r : Row) → i < 576 → r ≡ get_or ys i blank → p ≡ written q i r → Taken i ys q → Taken (i + 1) ys p
taken_more i ys q p r l e f h =
    record { size = ap length f ∙ written_size q i r ∙ h.size; rows = λ j k. ap (λ (y : List ℕ). row_at y j) f ∙ go j k (dec_lt j i) }
  where
    go : (j : ℕ) → j < i + 1 → Dec (j < i) → row_at (written q i r) j ≡ get_or ys j blank
    go j k (yes z) = written_other q i r j z ∙ h.rows j z
    go j k (no z) = let e' : i ≡ j = omega arith in let s = h.size in subst (λ (y : ℕ). row_at (written q i r) y ≡ get_or ys y blank) e' (written_there q i r (omega arith) ∙ e)

-- ---- there and back: the first n rows are the same numbers

pub back : (n : ℕ) (q p : List ℕ) (ys zs : List Row) → Appended n q ys zs → Taken n zs p → (i : ℕ) → i < n → row_at p i ≡ row_at q i
back n q p ys zs h k i l = k.rows i l ∙ h.rows i l
