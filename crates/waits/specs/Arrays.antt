-- What an array made by `from_fn` holds, where the closure changes nothing: at each place what a call there may give. By the calls in turn.
use Rattle.std.specs.Prelude.{ℕ, zero, suc, ◌+◌, ◌<◌, ◌≤◌, ◌≡◌, refl, List, get_or}
use Rattle.std.proofs.Common.{arith, sym, subst}
use Rattle.std.proofs.Math.Decide.{ℕ_discrete}
use Rattle.std.specs.Fn.{Called, Mut}
use Rattle.std.specs.Array.{IsFromFnResult, IsFromFnResultFrom}

module _ {F B : Type 0} {g : Mut F (ℕ × Unit {0}) B} {f : F} (ys : List B) (P : ℕ → B → Type 0) (n : ℕ)
    (calls : (x : ℕ) (y : B) (q : F) → x < n → Called g f (x, tt) y q → (q ≡ f) × P x y) where
  places : (m i : ℕ) (e : F) → e ≡ f → i + m ≡ n → IsFromFnResultFrom g e ys i m → (k : ℕ) (d : B) → i ≤ k → k < n → P k (get_or ys k d)
  places zero i e s a h k d b l = absurd (omega arith)
  places (suc m) i e s a h k d b l = go (ℕ_discrete k i) (λ z. places m (i + 1) h.0 made.0 (omega arith) h.4 k d z l)
    where
      made : (h.0 ≡ f) × P i h.1
      made = calls i h.1 h.0 (omega arith) (subst (λ (x : F). Called g x (i, tt) h.1 h.0) s h.3)

      go : Dec (k ≡ i) → (i + 1 ≤ k → P k (get_or ys k d)) → P k (get_or ys k d)
      go (yes z) rest = subst (λ (j : ℕ). P j (get_or ys j d)) (sym z) (subst (P i) (sym (h.2.1 d)) made.1)
      go (no z) rest = rest (omega arith)

  pub made_at : IsFromFnResult g f ys n → (k : ℕ) (d : B) → k < n → P k (get_or ys k d)
  made_at h k d l = places n 0 f refl (omega arith) h.each k d (omega arith) l
