-- Laws: the digits, place by place.
use Rattle.std.specs.Prelude.{ℕ, ◌+◌, ◌≤◌, ◌<◌, ◌≡◌, true, false, List, length, get_or, drop}
use Rattle.std.proofs.Common.{add-one, drop_of_length-le, drop-cons}
use Rattle.typed_value.specs.Lexemes.{digitb, past}
use Rattle.commands.specs.Times.{with_digit, digits_of_fn, number_of}

module _ (s : List ℕ) (i : ℕ) where
  module _ (h : i < length s) where
    pub digits_stop : (n : ℕ) → digitb (get_or s i 0) ≡ false → digits_of_fn n (drop i s) ≡ n
    digits_stop n e = rw (drop-cons s i 0 h, e)

    pub digits_on : (n : ℕ) → digitb (get_or s i 0) ≡ true → digits_of_fn n (drop i s) ≡ digits_of_fn (with_digit n (get_or s i 0)) (drop (i + 1) s)
    digits_on n e = rw (drop-cons s i 0 h, e, add-one i)

  pub digits_end : (n : ℕ) → length s ≤ i → digits_of_fn n (drop i s) ≡ n
  digits_end n h = rw (drop_of_length-le s h)

pub as_number : (s : List ℕ) (at n p : ℕ) → digits_of_fn 0 (drop at s) ≡ n → past digitb s at ≡ p → record { value = n; next = p } ≡ number_of s at
unfolding number_of
as_number s at n p e f = rw (e, f)
