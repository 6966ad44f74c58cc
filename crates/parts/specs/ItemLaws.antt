-- Laws: two texts are compared byte by byte, and what is found among the names is what 9.5 resolves the name to.
use Rattle.std.specs.Prelude.{◌≡◌, refl, Bool, true, false, ◌&&◌, List, [], ◌∷◌, ℕ, zero, suc, ◌+◌, ◌-◌, ◌≤◌, ◌<◌, eqb, get_or, length}
use Rattle.std.proofs.Common.{ap, subst, ◌∙◌, not-suc-le-zero, arith, eq-eqb, ne_eqb}
use Rattle.paper_expressions.specs.Bytes.{fold, folded, Alike}
use Rattle.paper_expressions.specs.View.{View, Item, At, at_first, at_later}
use Rattle.paper_expressions.proofs.Laws.Search.{alikeb, alike_reflects, true_reflects, reflects_true}
use Rattle.parts.specs.Texts.{cells, text_at_fn}
use Rattle.parts.specs.Items.{Items, Found}

-- ---- two texts, byte by byte

pub alike_from : (b : List ℕ) (x y n : ℕ) → alikeb (cells b x n) (cells b y n) ≡ alikeb (cells b (x + 0) (n - 0)) (cells b (y + 0) (n - 0))
alike_from b x y n =
    let u : x + 0 ≡ x = omega arith in
    let v : y + 0 ≡ y = omega arith in
    let w : n - 0 ≡ n = omega arith in
    rw (u, v, w) refl

-- the bytes i agree: the rest decides
pub alike_step : (b : List ℕ) (x y n i : ℕ) → i < n → fold (get_or b (x + i) 0) ≡ fold (get_or b (y + i) 0)
    → alikeb (cells b (x + i) (n - i)) (cells b (y + i) (n - i)) ≡ alikeb (cells b (x + (i + 1)) (n - (i + 1))) (cells b (y + (i + 1)) (n - (i + 1)))
alike_step b x y n i l h =
    let e : n - i ≡ suc (n - (i + 1)) = omega arith in
    let u : x + (i + 1) ≡ suc (x + i) = omega arith in
    let v : y + (i + 1) ≡ suc (y + i) = omega arith in
    rw (e, u, v, eq-eqb _ _ h)

pub alike_stop : (b : List ℕ) (x y m : ℕ) → 0 < m → ¬ (fold (get_or b x 0) ≡ fold (get_or b y 0)) → alikeb (cells b x m) (cells b y m) ≡ false
alike_stop b x y zero l h = absurd (not-suc-le-zero l)
alike_stop b x y (suc m) l h = rw (ne_eqb _ _ h)

pub alike_end : (b : List ℕ) (x y m : ℕ) → m ≤ 0 → alikeb (cells b x m) (cells b y m) ≡ true
alike_end b x y zero l = refl
alike_end b x y (suc m) l = absurd (not-suc-le-zero l)

both_false : (p q : Bool) → q ≡ false → (p && q) ≡ false
both_false true q e = e
both_false false q e = refl

pub alike_long : (b : List ℕ) (n m x y : ℕ) → ¬ (n ≡ m) → alikeb (cells b x n) (cells b y m) ≡ false
alike_long b zero zero x y h = absurd (h refl)
alike_long b zero (suc m) x y h = refl
alike_long b (suc n) zero x y h = refl
alike_long b (suc n) (suc m) x y h =
    both_false (eqb (fold (get_or b x 0)) (fold (get_or b y 0))) (alikeb (cells b (suc x) n) (cells b (suc y) m)) (alike_long b n m (suc x) (suc y) (λ e. h (ap suc e)))

-- ---- what is found

pub at_index : {A : Type 0} (l : List A) (i : ℕ) → i < length l → (x : A) × At l i x
at_index [] i h = absurd (not-suc-le-zero h)
at_index (x ∷ l) zero h = (x, at_first)
at_index (x ∷ l) (suc i) h = let r = at_index l i (omega arith) in (r.0, at_later r.1)

pub index_of : {A : Type 0} {l : List A} {i : ℕ} {x : A} → At l i x → i < length l
index_of at_first = omega arith
index_of (at_later h) = omega (arith, index_of h)

module _ {b names types : List ℕ} {v : View} {h r : ℕ} (held : Items b names types v) (f : Found b names h r) where
  pub resolved : r < length names → (x : Item) × At v.items r x × Alike x.name (text_at_fn b h)
  resolved l =
      let n = held.number in
      let x = at_index v.items r (omega arith) in
      let e = held.named x.1 in
      (x.0, x.1, subst (λ (s : List ℕ). Alike s (text_at_fn b h)) e (true_reflects (alike_reflects (text_at_fn b (get_or names r 0)) (text_at_fn b h)) (f.found l)))

  pub unresolved : length names ≤ r → (d : ℕ) (x : Item) → At v.items d x → ¬ Alike x.name (text_at_fn b h)
  unresolved l d x k a =
      let n = held.number in
      let i = index_of k in
      let w = f.within in
      let e = held.named k in
      f.before d (omega arith) (reflects_true (alike_reflects (text_at_fn b (get_or names d 0)) (text_at_fn b h)) (ap folded e ∙ a))
