-- The bytes of a text that are left: all at first, and one less at each step.
use Rattle.std.specs.Prelude.{ℕ, suc, ◌+◌, ◌-◌, ◌<◌, ◌≡◌, refl, List, ◌∷◌, get_or}
use Rattle.std.proofs.Common.{sym, ap, arith}
use Rattle.parts.specs.Texts.{cells}

pub none_left : (b : List ℕ) (x n : ℕ) → cells b x n ≡ cells b (x + 0) (n - 0)
none_left b x n = let u : x + 0 ≡ x = omega arith in let v : n - 0 ≡ n = omega arith in rw (u, v) refl

pub one_less : (b : List ℕ) (x n i : ℕ) {c : ℕ} → i < n → c ≡ get_or b (x + i) 0 → cells b (x + i) (n - i) ≡ c ∷ cells b (x + (i + 1)) (n - (i + 1))
one_less b x n i {c} l e =
    let u : n - i ≡ suc (n - (i + 1)) = omega arith in
    let v : x + (i + 1) ≡ suc (x + i) = omega arith in
    rw (u, v) (ap (λ (a : ℕ). a ∷ cells b (suc (x + i)) (n - (i + 1))) (sym e))
