-- Laws: the quote that closes, place by place.
use Rattle.std.specs.Prelude.{ℕ, suc, ◌+◌, ◌≤◌, ◌<◌, ◌≡◌, refl, true, false, List, length, get_or, drop}
use Rattle.std.proofs.Common.{arith, add-one, ◌∙◌, drop_of_length-le, drop-cons}
use Rattle.typed_value.specs.Texts.{closes_of, inside}

module _ (q : ℕ) (s : List ℕ) (i b : ℕ) where
  pub inside_end : length s ≤ i → i + inside q b (drop i s) ≡ i
  inside_end h = let e : i + 0 ≡ i = omega arith in rw (drop_of_length-le s h) e

  module _ (h : i < length s) where
    pub inside_stop : closes_of q b (get_or s i 0) ≡ true → i + inside q b (drop i s) ≡ i
    inside_stop n = let e : i + 0 ≡ i = omega arith in rw (drop-cons s i 0 h, n) e

    pub inside_on : closes_of q b (get_or s i 0) ≡ false → i + inside q b (drop i s) ≡ (i + 1) + inside q (get_or s i 0) (drop (i + 1) s)
    inside_on n =
        let e : i + suc (inside q (get_or s i 0) (drop (suc i) s)) ≡ (i + 1) + inside q (get_or s i 0) (drop (suc i) s) = omega arith in
        rw (drop-cons s i 0 h, n, add-one i) (e ∙ rw (add-one i) refl)
