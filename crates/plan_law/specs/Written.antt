-- A cell that each row keeps or writes: unwritten it is 0; written, it is what some row writes there; and what the last one does. By induction on the rows.
use Rattle.std.specs.Prelude.{ℕ, zero, suc, ◌+◌, ◌≤◌, ◌<◌, ◌≡◌, refl, Bool, true, false, cond, ◌&&◌, ◌||◌, ◌⊎◌, eqb}
use Rattle.std.proofs.Common.{arith, sym, ap, subst, ◌∙◌, inl, inr, eqb-true, eq-eqb}
use Rattle.std.proofs.Math.Decide.{dec_lt}
use Rattle.paper_expressions.proofs.Laws.Tests.{contra, two, and_l, and_r, both, or_cases}
use Rattle.plan.specs.Writes.{one_if, counted}
use Rattle.plan_rows.specs.Last.{none_put, last_put, some_put}

-- the row k writes v k to the cell i, where c k says so and at k is i
module _ (F : ℕ → ℕ) (c : ℕ → Bool) (at v : ℕ → ℕ) (i : ℕ) (start : F 0 ≡ 0) (step : (k : ℕ) → F (suc k) ≡ cond (c k && eqb (at k) i) (v k) (F k)) where
  pub record Writer (n : ℕ) : Type 0 where
    pub k : ℕ
    pub below : k < n
    pub of : c k ≡ true
    pub there : at k ≡ i
    pub cell : F n ≡ v k

  not_both : {k : ℕ} → (c k ≡ true → ¬ (at k ≡ i)) → (c k && eqb (at k) i) ≡ false
  not_both {k} h = go (two (c k && eqb (at k) i))
    where
      go : ((c k && eqb (at k) i) ≡ true) ⊎ ((c k && eqb (at k) i) ≡ false) → (c k && eqb (at k) i) ≡ false
      go (inl q) = absurd (h (and_l (c k) (eqb (at k) i) q) (eqb-true (at k) i (and_r (c k) (eqb (at k) i) q)))
      go (inr q) = q

  pub unwritten : (n : ℕ) → ((k : ℕ) → k < n → c k ≡ true → ¬ (at k ≡ i)) → F n ≡ 0
  unwritten n h = none_put F (λ k. c k && eqb (at k) i) v step n (λ k l. not_both (h k l)) ∙ start

  pub written : (n : ℕ) {j : ℕ} → j < n → c j ≡ true → at j ≡ i → Writer n
  written n {j} l e q =
      let r = some_put F (λ k. c k && eqb (at k) i) v step n l (both (c j) (eqb (at j) i) e (eq-eqb (at j) i q)) in
      record { k = r.0; below = r.1; of = and_l (c r.0) (eqb (at r.0) i) r.2; there = eqb-true (at r.0) i (and_r (c r.0) (eqb (at r.0) i) r.2); cell = r.3 }

  pub last_written : (n : ℕ) {j : ℕ} → j < n → c j ≡ true → at j ≡ i → ((k : ℕ) → j < k → k < n → c k ≡ true → ¬ (at k ≡ i)) → F n ≡ v j
  last_written n {j} l e q h = last_put F (λ k. c k && eqb (at k) i) v step n l (both (c j) (eqb (at j) i) e (eq-eqb (at j) i q)) (λ k a b. not_both (h k a b))

-- a mark that rows only set
module _ (F : ℕ → Bool) (c : ℕ → Bool) (start : F 0 ≡ false) (step : (k : ℕ) → F (suc k) ≡ (c k || F k)) where
  pub marked_by : (n : ℕ) → F n ≡ true → (k : ℕ) × (k < n) × (c k ≡ true)
  marked_by zero e = contra (sym start ∙ e)
  marked_by (suc n) e = go (or_cases (c n) (F n) (sym (step n) ∙ e)) (λ q. marked_by n q)
    where
      go : (c n ≡ true) ⊎ (F n ≡ true) → (F n ≡ true → (k : ℕ) × (k < n) × (c k ≡ true)) → (k : ℕ) × (k < suc n) × (c k ≡ true)
      go (inl q) f = (n, omega arith, q)
      go (inr q) f = let r = f q in (r.0, (let z = r.1 in omega arith), r.2)

  pub marks : (n : ℕ) {j : ℕ} → j < n → c j ≡ true → F n ≡ true
  marks zero l e = absurd (omega arith)
  marks (suc n) {j} l e = go (dec_lt j n) (λ u. marks n u e)
    where
      set : (b : Bool) {a : Bool} → a ≡ true → (b || a) ≡ true
      set true q = refl
      set false q = q

      go : Dec (j < n) → (j < n → F n ≡ true) → F (suc n) ≡ true
      go (yes u) f = step n ∙ set (c n) (f u)
      go (no u) f = let z : j ≡ n = omega arith in step n ∙ rw (subst (λ (x : ℕ). c x ≡ true) z e)

-- counts only grow
pub counted_rise : (c : ℕ → Bool) (kind : ℕ → ℕ) (i k : ℕ) → i ≤ k → counted c kind i ≤ counted c kind k
counted_rise c kind i zero l = let z : i ≡ 0 = omega arith in subst (λ (n : ℕ). counted c kind n ≤ 0) (sym z) (omega arith)
counted_rise c kind i (suc k) l = go (dec_lt k i) (λ h. counted_rise c kind i k h)
  where
    go : Dec (k < i) → (i ≤ k → counted c kind i ≤ counted c kind k) → counted c kind i ≤ counted c kind (suc k)
    go (yes u) f = let z : i ≡ suc k = omega arith in subst (λ (n : ℕ). counted c kind n ≤ counted c kind (suc k)) (sym z) (omega arith)
    go (no u) f = let h = f (omega arith) in omega arith

-- past a row that counts
pub counted_past : (c : ℕ → Bool) (kind : ℕ → ℕ) (i k : ℕ) → i < k → c (kind i) ≡ true → counted c kind i + 1 ≤ counted c kind k
counted_past c kind i k l e =
    let h = counted_rise c kind (suc i) k l in
    let q : one_if (c (kind i)) ≡ 1 = ap one_if e in
    omega arith
