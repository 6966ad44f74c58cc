-- Laws: digits place by place; counting as the code does comes to the same number with its sign; and how it makes that sign.
use Rattle.std.specs.Prelude.{ℕ, zero, suc, ◌+◌, ◌*◌, ◌-◌, ◌≤◌, ◌<◌, ◌≡◌, refl, Bool, true, false, cond, ◌&&◌, List, [], ◌∷◌, leb, pos, negsuc, neg_ℤ, length, get_or, drop}
use Rattle.std.proofs.Common.{arith, add-one, ap, ◌∙◌, drop_of_length-le, drop-cons, leb-true, lt-ltb, le-ltb}
use Rattle.std.proofs.Math.Decide.{dec_lt}
use Rattle.paper_expressions.proofs.Laws.Tests.{contra}
use Rattle.parts.specs.Texts.{literal}
use Rattle.typed_value.specs.Lexemes.{digitb, run}
use Rattle.typed_value.specs.Numerals.{decimal, kept_number, with_digit, signed_of}

-- ---- a digit

and_left : (a b : Bool) → (a && b) ≡ true → a ≡ true
and_left true b e = refl
and_left false b e = contra e

pub and_right : (a b : Bool) → (a && b) ≡ true → b ≡ true
and_right true b e = e
and_right false b e = contra e

pub digit_low : (b : ℕ) → digitb b ≡ true → 48 ≤ b
digit_low b e = leb-true 48 b (and_left (leb 48 b) (leb b 57) e)

digit_high : (b : ℕ) → digitb b ≡ true → b ≤ 57
digit_high b e = leb-true b 57 (and_right (leb 48 b) (leb b 57) e)

-- ---- digits, as the code counts them

abbrev pub counted : ℕ → List ℕ → ℕ
counted n [] = n
counted n (b ∷ s) = cond (digitb b) (counted (with_digit n b) s) n

module _ (s : List ℕ) (i n : ℕ) where
  pub counted_end : length s ≤ i → counted n (drop i s) ≡ n
  counted_end h = rw (drop_of_length-le s h)

  module _ (h : i < length s) where
    pub counted_stop : digitb (get_or s i 0) ≡ false → counted n (drop i s) ≡ n
    counted_stop e = rw (drop-cons s i 0 h, e)

    pub counted_on : digitb (get_or s i 0) ≡ true → counted n (drop i s) ≡ counted (with_digit n (get_or s i 0)) (drop (i + 1) s)
    counted_on e = rw (drop-cons s i 0 h, e, add-one i)

kept_more : (v b : ℕ) → digitb b ≡ true → with_digit (kept_number v) b ≡ kept_number (v * 10 + (b - 48))
kept_more v b e = go (dec_lt 2000000009 v) (dec_lt 200000000 v)
  where
    go : Dec (2000000009 < v) → Dec (200000000 < v) → with_digit (kept_number v) b ≡ kept_number (v * 10 + (b - 48))
    go (yes h) k = rw (lt-ltb 2000000009 v h, lt-ltb 2000000009 (v * 10 + (b - 48)) (omega arith))
    go (no h) (yes k) = rw (le-ltb 2000000009 v (omega arith), lt-ltb 200000000 v k, lt-ltb 2000000009 (v * 10 + (b - 48)) (omega arith))
    go (no h) (no k) = let d = digit_high b e in rw (le-ltb 2000000009 v (omega arith), le-ltb 200000000 v (omega arith), le-ltb 2000000009 (v * 10 + (b - 48)) (omega arith))

pub counted_kept : (v : ℕ) (s : List ℕ) → counted (kept_number v) s ≡ kept_number (decimal v s)
counted_kept v [] = refl
counted_kept v (b ∷ s) = go (digitb b) refl (counted_kept (v * 10 + (b - 48)) s)
  where
    go : (t : Bool) → digitb b ≡ t → counted (kept_number (v * 10 + (b - 48))) s ≡ kept_number (decimal (v * 10 + (b - 48)) s)
        → cond t (counted (with_digit (kept_number v) b) s) (kept_number v) ≡ kept_number (cond t (decimal (v * 10 + (b - 48)) s) v)
    go true e h = ap (λ (m : ℕ). counted m s) (kept_more v b e) ∙ h
    go false e h = refl

-- ---- at most three digits are counted as they are

abbrev up_to : ℕ → ℕ → ℕ
up_to zero n = n
up_to (suc k) n = up_to k (n * 10 + 9)

up-to : (k n : ℕ) → n ≤ up_to k n
up-to zero n = omega arith
up-to (suc k) n = let h = up-to k (n * 10 + 9) in omega arith

few : (s : List ℕ) (k n m : ℕ) → run digitb s ≤ k → n ≤ m → decimal n s ≤ up_to k m
few [] k n m r l = let h = up-to k m in omega arith
few (b ∷ s) zero n m r l = go (digitb b) refl r
  where
    go : (t : Bool) → digitb b ≡ t → cond t (suc (run digitb s)) 0 ≤ 0 → cond t (decimal (n * 10 + (b - 48)) s) n ≤ m
    go true e q = absurd (omega arith)
    go false e q = l
few (b ∷ s) (suc k) n m r l = go (digitb b) refl r (λ d q. few s k (n * 10 + (b - 48)) (m * 10 + 9) q (omega arith))
  where
    go : (t : Bool) → digitb b ≡ t → cond t (suc (run digitb s)) 0 ≤ suc k → (b ≤ 57 → run digitb s ≤ k → decimal (n * 10 + (b - 48)) s ≤ up_to k (m * 10 + 9))
        → cond t (decimal (n * 10 + (b - 48)) s) n ≤ up_to k (m * 10 + 9)
    go true e q f = f (digit_high b e) (omega arith)
    go false e q f = let h = up-to k (m * 10 + 9) in omega arith

pub few_kept : (s : List ℕ) → run digitb s ≤ 3 → kept_number (decimal 0 s) ≡ decimal 0 s
few_kept s h = let l : decimal 0 s ≤ 999 = few s 3 0 0 h (omega arith) in rw (le-ltb 2000000009 (decimal 0 s) (omega arith))

-- ---- with the sign

pub integer_kept : (minus : Bool) (v : ℕ) → signed_of minus (kept_number v) ≡ signed_of minus v
integer_kept minus v = go (dec_lt 2000000009 v)
  where
    go : Dec (2000000009 < v) → signed_of minus (kept_number v) ≡ signed_of minus v
    go (yes h) = rw (lt-ltb 2000000009 v h, lt-ltb 2000000000 v (omega arith))
    go (no h) = rw (le-ltb 2000000009 v (omega arith))

pub real_kept : (minus : Bool) (v f : ℕ) → signed_of minus (kept_number v * 1000 + f) ≡ signed_of minus (v * 1000 + f)
real_kept minus v f = go (dec_lt 2000000009 v)
  where
    go : Dec (2000000009 < v) → signed_of minus (kept_number v * 1000 + f) ≡ signed_of minus (v * 1000 + f)
    go (yes h) = rw (lt-ltb 2000000009 v h, lt-ltb 2000000000 (v * 1000 + f) (omega arith), lt-ltb 2000000000 (10000000000000 + f) (omega arith))
    go (no h) = rw (le-ltb 2000000009 v (omega arith))

-- moved up by the limit of reals, as a literal is, and down again
pub literal_minus : (n : ℕ) → n ≤ 2000000000 → literal (2000000000 - n) ≡ neg_ℤ (pos n)
literal_minus zero h = refl
literal_minus (suc n) h =
    let e : 2000000000 - suc (2000000000 - suc n) ≡ n = omega arith in
    rw (lt-ltb (2000000000 - suc n) 2000000000 (omega arith)) (ap negsuc e)

pub literal_plus : (n : ℕ) → literal (2000000000 + n) ≡ pos n
literal_plus n =
    let e : 2000000000 + n - 2000000000 ≡ n = omega arith in
    rw (le-ltb (2000000000 + n) 2000000000 (omega arith)) (ap pos e)
