-- The digits of a number: the last one behind those of its tenth. By induction on how many digits there may be.
use Rattle.std.specs.Prelude.{◌≡◌, refl, Bool, true, false, List, [], ◌∷◌, ◌++◌, ℕ, zero, suc, ◌+◌, ◌^◌, ◌/◌, ◌%◌, ◌≤◌, ◌<◌, ltb}
use Rattle.std.proofs.Common.{ap, arith, lt-ltb, le-ltb}
use Rattle.paper_guideline.specs.Line.{digits_in, digits_of}

-- the last digit of a number, as a byte
abbrev pub digit_of : ℕ → ℕ
digit_of m = 48 + m % 10

-- one more digit than there is room needed for changes nothing
enough : (n m : ℕ) → m < 10 ^ suc n → digits_in (suc n) m ≡ digits_in (suc (suc n)) m
enough zero m h = rw (lt-ltb m 10 h)
enough (suc n) m h = go (ltb m 10) refl (enough n (m / 10) (omega arith))
  where
    go : (t : Bool) → ltb m 10 ≡ t → digits_in (suc n) (m / 10) ≡ digits_in (suc (suc n)) (m / 10) → digits_in (suc (suc n)) m ≡ digits_in (suc (suc (suc n))) m
    go true e k = simp e
    go false e k = simp e (ap (λ (l : List ℕ). l ++ (digit_of m ∷ [])) k)

pub one_digit : (m : ℕ) → m < 10 → digits_of m ≡ digit_of m ∷ []
one_digit m h = rw (lt-ltb m 10 h) (ap (λ k. (48 + k) ∷ []) (let e : m ≡ m % 10 = omega arith in e))

pub more_digits : (m : ℕ) → 10 ≤ m → m < 2 ^ 64 → digits_of m ≡ digits_of (m / 10) ++ (digit_of m ∷ [])
more_digits m h k = rw (le-ltb m 10 h) (ap (λ (l : List ℕ). l ++ (digit_of m ∷ [])) (enough 18 (m / 10) (omega arith)))
