-- Laws: a text that is copied is put as the definition says, and back. By the bytes.
use Rattle.std.specs.Prelude.{ℕ, zero, suc, ◌+◌, ◌-◌, ◌≤◌, ◌<◌, ◌≡◌, refl, List, length, get_or}
use Rattle.std.proofs.Common.{arith, add-one, sym, ap, subst, ◌∙◌, inl, inr, ext_get_or}
use Rattle.std.proofs.Math.Decide.{dec_lt}
use Rattle.blocks.specs.Blocks.{Copied, copied_none, copied_more}
use Rattle.typed_value.specs.Cells.{spread}

pub spread_copied : (t : List ℕ) (q n : ℕ) (b : List ℕ) → Copied t 0 b q n (spread t q n b)
unfolding spread
spread_copied t q zero b = copied_none t 0 b q
spread_copied t q (suc n) b =
    let e : n ≡ 0 + n = omega arith in
    subst (λ (m : ℕ). Copied t 0 b q m (spread t q (suc n) b)) (add-one n)
    (copied_more t 0 b q n (spread t q n b) (spread t q (suc n) b) (ap (λ (y : ℕ). get_or t y 0) e) refl (spread_copied t q n b))

copied_same : (t b : List ℕ) (q n : ℕ) (u v : List ℕ) → Copied t 0 b q n u → Copied t 0 b q n v → u ≡ v
copied_same t b q n u v h k = let s = h.size in ext_get_or 0 u v (h.size ∙ sym k.size) (λ i l. at i (omega arith) (dec_lt i q) (dec_lt i (q + n)))
  where
    at : (i : ℕ) → i < length b → Dec (i < q) → Dec (i < q + n) → get_or u i 0 ≡ get_or v i 0
    at i l (yes x) y = h.other i (inl x) ∙ sym (k.other i (inl x))
    at i l (no x) (no y) = let z : q + n ≤ i = omega arith in h.other i (inr z) ∙ sym (k.other i (inr z))
    at i l (no x) (yes y) =
        let e : q + (i - q) ≡ i = omega arith in
        subst (λ (j : ℕ). get_or u j 0 ≡ get_or v j 0) e (h.same (i - q) (omega arith) (omega arith) ∙ sym (k.same (i - q) (omega arith) (omega arith)))

pub copied_spread : (t b : List ℕ) (q n : ℕ) {v : List ℕ} → Copied t 0 b q n v → v ≡ spread t q n b
copied_spread t b q n {v} h = copied_same t b q n v (spread t q n b) h (spread_copied t q n b)
