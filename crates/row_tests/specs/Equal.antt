-- Two texts, byte by byte: what the first bytes settle, and what they leave to the rest.
use Rattle.std.specs.Prelude.{ℕ, zero, suc, ◌+◌, ◌-◌, ◌≤◌, ◌<◌, ◌≡◌, refl, Bool, true, false, ◌&&◌, List, eqb, get_or}
use Rattle.std.proofs.Common.{ap, not-suc-le-zero, add-one, arith, eq-eqb, ne_eqb}
use Rattle.std.specs.List.{list_all, range_with_len}
use Rattle.paper_expressions.proofs.Laws.Search.{sameb}
use Rattle.parts.specs.Texts.{cells}

pub same_step : (b : List ℕ) (x y m : ℕ) → 0 < m → get_or b x 0 ≡ get_or b y 0 → sameb (cells b x m) (cells b y m) ≡ sameb (cells b (x + 1) (m - 1)) (cells b (y + 1) (m - 1))
same_step b x y zero l h = absurd (not-suc-le-zero l)
same_step b x y (suc m) l h = let e : suc m - 1 ≡ m = omega arith in rw (eq-eqb _ _ h, add-one x, add-one y, e)

pub same_stop : (b : List ℕ) (x y m : ℕ) → 0 < m → ¬ (get_or b x 0 ≡ get_or b y 0) → sameb (cells b x m) (cells b y m) ≡ false
same_stop b x y zero l h = absurd (not-suc-le-zero l)
same_stop b x y (suc m) l h = rw (ne_eqb _ _ h)

pub same_end : (b : List ℕ) (x y m : ℕ) → m ≤ 0 → sameb (cells b x m) (cells b y m) ≡ true
same_end b x y zero l = refl
same_end b x y (suc m) l = absurd (not-suc-le-zero l)

both_false : (p q : Bool) → q ≡ false → (p && q) ≡ false
both_false true q e = e
both_false false q e = refl

pub same_long : (b : List ℕ) (n m x y : ℕ) → ¬ (n ≡ m) → sameb (cells b x n) (cells b y m) ≡ false
same_long b zero zero x y h = absurd (h refl)
same_long b zero (suc m) x y h = refl
same_long b (suc n) zero x y h = refl
same_long b (suc n) (suc m) x y h = both_false (eqb (get_or b x 0) (get_or b y 0)) (sameb (cells b (suc x) n) (cells b (suc y) m)) (same_long b n m (suc x) (suc y) (λ e. h (ap suc e)))

-- by a test of each of the n places
pub same_places : (b : List ℕ) (x y n k : ℕ) → list_all (λ i. eqb (get_or b (x + i) 0) (get_or b (y + i) 0)) (range_with_len k n) ≡ sameb (cells b (x + k) n) (cells b (y + k) n)
same_places b x y zero k = refl
same_places b x y (suc n) k =
    let e : suc (x + k) ≡ x + suc k = omega arith in
    let f : suc (y + k) ≡ y + suc k = omega arith in
    rw (add-one k, e, f) (ap (λ (r : Bool). eqb (get_or b (x + k) 0) (get_or b (y + k) 0) && r) (same_places b x y n (suc k)))
