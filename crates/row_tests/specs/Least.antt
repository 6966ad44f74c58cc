-- The smallest place over the rows that break something; one row more.
use Rattle.std.specs.Prelude.{ℕ, ◌≤◌, ◌<◌, ◌≡◌, refl, cond, ◌⊎◌, leb, Option, Some, None}
use Rattle.std.proofs.Common.{sym, ap, ◌∙◌, ⊎_elim, arith, le-leb}
use Rattle.std.proofs.Math.Decide.{dec_lt}
use Rattle.std.proofs.lemmas.Bool.{lt-leb}

-- the smaller place
abbrev pub nearer : Option ℕ → ℕ → Option ℕ
nearer None p = Some p
nearer (Some q) p = cond (leb q p) (Some q) (Some p)

-- what the code finds out of the two
pub nearer_none : (r : Option ℕ) {p : ℕ} → r ≡ None → Some p ≡ nearer r p
nearer_none r {p} e = ap (λ (f : Option ℕ). nearer f p) (sym e)

pub nearer_old : (r : Option ℕ) {q p : ℕ} → r ≡ Some q → q ≤ p → Some q ≡ nearer r p
nearer_old r {q} {p} e l = sym (ap (λ (f : Option ℕ). nearer f p) e ∙ rw (le-leb q p l))

pub nearer_new : (r : Option ℕ) {q p : ℕ} → r ≡ Some q → ¬ (q ≤ p) → Some p ≡ nearer r p
nearer_new r {q} {p} e l = sym (ap (λ (f : Option ℕ). nearer f p) e ∙ rw (lt-leb q p (let z : p < q = omega arith in z)))

-- of the rows for which P holds, with the place of each
abbrev pub Least : (ℕ → Type 0) → (ℕ → ℕ) → Option ℕ → Type 0
Least P f (Some p) = ((j : ℕ) × P j × (p ≡ f j)) × ((j : ℕ) → P j → p ≤ f j)
Least P f None = (j : ℕ) → ¬ P j

pub least_as : (P Q : ℕ → Type 0) (f : ℕ → ℕ) (r : Option ℕ) → ((j : ℕ) → P j → Q j) → ((j : ℕ) → Q j → P j) → Least P f r → Least Q f r
least_as P Q f (Some p) to from h = ((h.0.0, to h.0.0 h.0.1, h.0.2), λ j q. h.1 j (from j q))
least_as P Q f None to from h = λ j q. h j (from j q)

-- one more
pub least_more : (P Q : ℕ → Type 0) (f : ℕ → ℕ) (i : ℕ) (r : Option ℕ) → ((j : ℕ) → P j → Q j) → ((j : ℕ) → Q j → P j ⊎ (j ≡ i)) → Q i → Least P f r → Least Q f (nearer r (f i))
least_more P Q f i None to from h g = ((i, h, refl), λ j q. ⊎_elim (λ p. absurd (g j p)) (λ e. let z = ap f e in omega arith) (from j q))
least_more P Q f i (Some p) to from h g = go (dec_lt (f i) p)
  where
    go : Dec (f i < p) → Least Q f (nearer (Some p) (f i))
    go (yes l) = rw (lt-leb p (f i) l) ((i, h, refl), λ j q. ⊎_elim (λ b. let z = g.1 j b in omega arith) (λ e. let z = ap f e in omega arith) (from j q))
    go (no l) =
        rw (le-leb p (f i) (let z : p ≤ f i = omega arith in z))
        ((g.0.0, to g.0.0 g.0.1, g.0.2), λ j q. ⊎_elim (λ b. g.1 j b) (λ e. let z = ap f e in omega arith) (from j q))

-- at most one answer
pub one_least : (P : ℕ → Type 0) (f : ℕ → ℕ) (r s : Option ℕ) → Least P f r → Least P f s → r ≡ s
one_least P f (Some p) (Some q) g h =
    let a = g.1 h.0.0 h.0.1 in
    let b = h.1 g.0.0 g.0.1 in
    let c = g.0.2 in
    let d = h.0.2 in
    ap Some (let e : p ≡ q = omega arith in e)
one_least P f (Some p) None g h = absurd (h g.0.0 g.0.1)
one_least P f None (Some q) g h = absurd (g h.0.0 h.0.1)
one_least P f None None g h = refl
