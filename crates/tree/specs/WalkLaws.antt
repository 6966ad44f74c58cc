-- Laws: one plan up, with at least one more to look at.
use Rattle.std.specs.Prelude.{ℕ, zero, suc, ◌-◌, ◌≤◌, ◌<◌, ◌≡◌, refl, List}
use Rattle.std.proofs.Common.{arith, subst, eq-eqb, ne_eqb}
use Rattle.waits.specs.Twins.{parent_at}
use Rattle.tree.specs.Walk.{Child, more_of_fn, Behind, at_root, beside, above, no_more, depth_of}

module _ (f : List ℕ) (u : ℕ) where
  pub root_up : (n : ℕ) → 0 < n → parent_at f u ≡ 0 → Behind f n u 32
  root_up zero l e = absurd (omega arith)
  root_up (suc n) l e = at_root e

  pub beside_up : (n c : ℕ) → 0 < n → ¬ (parent_at f u ≡ 0) → Child f (parent_at f u) (more_of_fn u) c → c < 32 → Behind f n u c
  beside_up zero c l e h q = absurd (omega arith)
  beside_up (suc n) c l e h q = beside e h q

  pub above_up : (n c r : ℕ) → 0 < n → ¬ (parent_at f u ≡ 0) → Child f (parent_at f u) (more_of_fn u) c → 32 ≤ c → Behind f (n - 1) (parent_at f u - 1) r → Behind f n u r
  above_up zero c r l e h q b = absurd (omega arith)
  above_up (suc n) c r l e h q b =
      let i = h.within in
      let z : c ≡ 32 = omega arith in
      let y : suc n - 1 ≡ n = omega arith in
      above e (subst (λ (k : ℕ). Child f (parent_at f u) (more_of_fn u) k) z h) (subst (λ (k : ℕ). Behind f k (parent_at f u - 1) r) y b)

  pub none_up : (n : ℕ) → n ≤ 0 → Behind f n u 32
  none_up zero l = no_more
  none_up (suc n) l = absurd (omega arith)

  pub depth_root : (n : ℕ) → parent_at f u ≡ 0 → depth_of f n u ≡ 0
  depth_root zero e = refl
  depth_root (suc n) e = rw (eq-eqb (parent_at f u) 0 e)

  pub depth_up : (n : ℕ) → 0 < n → ¬ (parent_at f u ≡ 0) → depth_of f n u ≡ suc (depth_of f (n - 1) (parent_at f u - 1))
  depth_up zero l e = absurd (omega arith)
  depth_up (suc n) l e = let y : suc n - 1 ≡ n = omega arith in rw (ne_eqb (parent_at f u) 0 e, y)

  pub depth_none : (n : ℕ) → n ≤ 0 → depth_of f n u ≡ 0
  depth_none zero l = refl
  depth_none (suc n) l = absurd (omega arith)
