-- A number that each step keeps or replaces: what it is in the end. By induction on the steps.
use Rattle.std.specs.Prelude.{ℕ, zero, suc, ◌<◌, ◌≡◌, refl, Bool, true, false, cond, ◌⊎◌}
use Rattle.std.proofs.Common.{arith, sym, ap, subst, ◌∙◌, inl, inr}
use Rattle.std.proofs.Math.Decide.{dec_lt}
use Rattle.paper_expressions.proofs.Laws.Tests.{contra, two}

-- the step k puts v k where c k says so
module _ (F : ℕ → ℕ) (c : ℕ → Bool) (v : ℕ → ℕ) (step : (k : ℕ) → F (suc k) ≡ cond (c k) (v k) (F k)) where
  puts : (k : ℕ) → c k ≡ true → F (suc k) ≡ v k
  puts k e = step k ∙ rw e

  keeps : (k : ℕ) → c k ≡ false → F (suc k) ≡ F k
  keeps k e = step k ∙ rw e

  -- no step puts anything
  pub none_put : (n : ℕ) → ((k : ℕ) → k < n → c k ≡ false) → F n ≡ F 0
  none_put zero h = refl
  none_put (suc n) h = keeps n (h n (omega arith)) ∙ none_put n (λ k l. h k (omega arith))

  -- the last step that does
  pub last_put : (n : ℕ) {j : ℕ} → j < n → c j ≡ true → ((k : ℕ) → j < k → k < n → c k ≡ false) → F n ≡ v j
  last_put zero l e h = absurd (omega arith)
  last_put (suc n) {j} l e h = go (dec_lt j n) (λ u. last_put n u e (λ k a b. h k a (omega arith)))
    where
      go : Dec (j < n) → (j < n → F n ≡ v j) → F (suc n) ≡ v j
      go (yes u) f = keeps n (h n u (omega arith)) ∙ f u
      go (no u) f = let z : n ≡ j = omega arith in puts n (subst (λ (k : ℕ). c k ≡ true) (sym z) e) ∙ ap v z

  -- some step that does
  pub some_put : (n : ℕ) {j : ℕ} → j < n → c j ≡ true → (k : ℕ) × (k < n) × (c k ≡ true) × (F n ≡ v k)
  some_put zero l e = absurd (omega arith)
  some_put (suc n) {j} l e = go (two (c n)) (dec_lt j n) (λ u. some_put n u e)
    where
      go : (c n ≡ true) ⊎ (c n ≡ false) → Dec (j < n) → (j < n → (k : ℕ) × (k < n) × (c k ≡ true) × (F n ≡ v k)) → (k : ℕ) × (k < suc n) × (c k ≡ true) × (F (suc n) ≡ v k)
      go (inl q) d f = (n, omega arith, q, puts n q)
      go (inr q) (yes u) f = let r = f u in (r.0, (let z = r.1 in omega arith), r.2, keeps n q ∙ r.3)
      go (inr q) (no u) f = let z : j ≡ n = omega arith in contra (sym q ∙ subst (λ (x : ℕ). c x ≡ true) z e)
