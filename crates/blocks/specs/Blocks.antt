-- What a copy and a comparison of n cells promise, and the laws of their loops. By the cells passed.
use Rattle.std.specs.Prelude.{ℕ, zero, suc, ◌+◌, ◌<◌, ◌≤◌, ◌≡◌, refl, Bool, true, false, ◌↔◌, ◌⊎◌, List, get_or, set, length}
use Rattle.std.proofs.Common.{arith, not-suc-le-zero, sym, ap, subst, ◌∙◌, inl, inr, length-set, get_or-set_same, get_or-set_other, below_more}
use Rattle.std.proofs.Math.Decide.{dec_lt}
use Rattle.std.proofs.Math.ListN.{get_or-eq_default}
use Rattle.paper_expressions.proofs.Laws.Tests.{contra}
use Rattle.parts.specs.Texts.{cells}

-- outside the n cells from q on
abbrev pub Outside : ℕ → ℕ → ℕ → Type 0
Outside q n i = (i < q) ⊎ (q + n ≤ i)

-- ---- a copy

-- of elements of any type, where d stands past the end
pub record CopiedOf {A : Type 0} (d : A) (from : List A) (p : ℕ) (to : List A) (q n : ℕ) (after : List A) : Type 0 where
  pub size : length after ≡ length to
  pub same : (k : ℕ) → k < n → q + k < length to → get_or after (q + k) d ≡ get_or from (p + k) d
  pub other : (i : ℕ) → Outside q n i → get_or after i d ≡ get_or to i d

abbrev pub Copied : List ℕ → ℕ → List ℕ → ℕ → ℕ → List ℕ → Type 0
Copied = CopiedOf 0

pub copied_none : {A : Type 0} {d : A} (from : List A) (p : ℕ) (to : List A) (q : ℕ) → CopiedOf d from p to q 0 to
copied_none from p to q = record { size = refl; same = λ k l m. absurd (not-suc-le-zero l); other = λ i h. refl }

pub copied_more : {A : Type 0} {d : A} (from : List A) (p : ℕ) (to : List A) (q k : ℕ) (v u : List A) {x : A} → x ≡ get_or from (p + k) d → u ≡ set v (q + k) x → CopiedOf d from p to q k v → CopiedOf d from p to q (k + 1) u
copied_more {A} {d} from p to q k v u {x} e f h =
    subst (CopiedOf d from p to q (k + 1)) (sym f)
    (record { size = length-set v (q + k) x ∙ h.size; same = same; other = other })
  where
    same : (j : ℕ) → j < k + 1 → q + j < length to → get_or (set v (q + k) x) (q + j) d ≡ get_or from (p + j) d
    same j l m = go (dec_lt j k)
      where
        go : Dec (j < k) → get_or (set v (q + k) x) (q + j) d ≡ get_or from (p + j) d
        go (yes i) = get_or-set_other v (q + k) (q + j) x d (λ z. omega arith) ∙ h.same j i m
        go (no i) =
            let e₁ : j ≡ k = omega arith in
            let s = h.size in
            subst (λ (y : ℕ). get_or (set v (q + k) x) (q + y) d ≡ get_or from (p + y) d) (sym e₁) (get_or-set_same v (q + k) x d (omega arith) ∙ e)

    other : (i : ℕ) → Outside q (k + 1) i → get_or (set v (q + k) x) i d ≡ get_or to i d
    other i (inl l) = get_or-set_other v (q + k) i x d (λ z. omega arith) ∙ h.other i (inl l)
    other i (inr l) = get_or-set_other v (q + k) i x d (λ z. omega arith) ∙ h.other i (inr (omega arith))

pub copied_all : {A : Type 0} {d : A} (from : List A) (p : ℕ) (to : List A) (q n k : ℕ) (v : List A) → k ≡ n → CopiedOf d from p to q k v → CopiedOf d from p to q n v
copied_all {A} {d} from p to q n k v e h = subst (λ (m : ℕ). CopiedOf d from p to q m v) e h

-- ---- a text

pub cells_long : (b : List ℕ) (p n : ℕ) → length (cells b p n) ≡ n
cells_long b p zero = refl
cells_long b p (suc n) = ap suc (cells_long b (suc p) n)

pub cells_at : (b : List ℕ) (p n k : ℕ) → k < n → get_or (cells b p n) k 0 ≡ get_or b (p + k) 0
cells_at b p zero k l = absurd (not-suc-le-zero l)
cells_at b p (suc n) zero l = let e : p ≡ p + 0 = omega arith in ap (λ (y : ℕ). get_or b y 0) e
cells_at b p (suc n) (suc k) l =
    let e : suc p + k ≡ p + suc k = omega arith in
    cells_at b (suc p) n k (omega arith) ∙ ap (λ (y : ℕ). get_or b y 0) e

pub cells_past : (b : List ℕ) (p n k : ℕ) → n ≤ k → get_or (cells b p n) k 0 ≡ 0
cells_past b p n k l = let e = cells_long b p n in get_or-eq_default (cells b p n) 0 (omega arith)

-- ---- a comparison

abbrev pub Same : List ℕ → ℕ → List ℕ → ℕ → ℕ → Type 0
Same a p b q n = (k : ℕ) → k < n → get_or a (p + k) 0 ≡ get_or b (q + k) 0

abbrev pub Compares : List ℕ → ℕ → List ℕ → ℕ → ℕ → Bool → Type 0
Compares a p b q n r = (r ≡ true) ↔ Same a p b q n

pub same_more : (a : List ℕ) (p : ℕ) (b : List ℕ) (q k : ℕ) {x y : ℕ} → x ≡ get_or a (p + k) 0 → y ≡ get_or b (q + k) 0 → x ≡ y → Same a p b q k → Same a p b q (k + 1)
same_more a p b q k e f g h = below_more (λ (j : ℕ). get_or a (p + j) 0 ≡ get_or b (q + j) 0) k h (sym e ∙ g ∙ f)

pub same_not : (a : List ℕ) (p : ℕ) (b : List ℕ) (q n k : ℕ) {x y : ℕ} → k < n → x ≡ get_or a (p + k) 0 → y ≡ get_or b (q + k) 0 → ¬ (x ≡ y) → Compares a p b q n false
same_not a p b q n k l e f g = (λ z. contra z, λ h. absurd (g (e ∙ h k l ∙ sym f)))

pub same_all : (a : List ℕ) (p : ℕ) (b : List ℕ) (q n k : ℕ) → n ≤ k → Same a p b q k → Compares a p b q n true
same_all a p b q n k l h = (λ z j m. h j (omega arith), λ z. refl)
