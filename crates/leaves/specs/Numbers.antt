-- The numbers that tokens write, as a reader over the bytes comes to them: digit by digit, cut off above the limits.
-- Law: within the limits they are the numbers of 9.1. By induction on the bytes.
use Rattle.std.specs.Prelude.{ℕ, zero, suc, ◌+◌, ◌*◌, ◌-◌, ◌≤◌, ◌≡◌, refl, Bool, true, false, cond, List, [], ◌∷◌, eqb, leb, pos, nat_abs, neg_ℤ}
use Rattle.std.proofs.Common.{sym, ap, subst, ◌∙◌, ⊎_elim, arith, ne_eqb, le-leb, le-ltb}
use Rattle.paper_expressions.proofs.Laws.Tests.{two}
use Rattle.paper_expressions.specs.Limits.{integer_limit, real_limit}
use Rattle.paper_tokens.specs.Literals.{whole, thousandths, behind_point}
use Rattle.parts.specs.Texts.{literal, moved, literal_moved}

-- ---- as they are read

-- above the limit of integers it is no matter how much
abbrev pub most : ℕ
most = 2_000_001

-- one digit more
abbrev pub grown : ℕ → ℕ → ℕ
grown n b = cond (leb (n * 10 + (b - 48)) most) (n * 10 + (b - 48)) most

abbrev pub digits : ℕ → List ℕ → ℕ
digits n [] = n
digits n (b ∷ w) = digits (grown n b) w

-- three digits behind the point
abbrev pub three : List ℕ → ℕ
three [] = 0
three (a ∷ []) = (a - 48) * 100
three (a ∷ b ∷ []) = (a - 48) * 100 + (b - 48) * 10
three (a ∷ b ∷ c ∷ w) = (a - 48) * 100 + (b - 48) * 10 + (c - 48)

abbrev pub fixed : ℕ → List ℕ → ℕ
fixed n [] = n * 1000
fixed n (b ∷ w) = cond (eqb b 46) (n * 1000 + three w) (fixed (grown n b) w)

-- the load of a number with its sign
abbrev pub above : ℕ → ℕ
above n = real_limit + n

abbrev pub below : ℕ → ℕ
below n = real_limit - n

-- the sign, and what stands behind it
abbrev pub minus_first : List ℕ → Bool
minus_first [] = false
minus_first (b ∷ w) = eqb b 45

abbrev pub unsigned : List ℕ → List ℕ
unsigned [] = []
unsigned (b ∷ w) = cond (eqb b 45) w (b ∷ w)

abbrev pub load_of : Bool → ℕ → ℕ
load_of true n = below n
load_of false n = above n

abbrev pub signed : (List ℕ → ℕ) → List ℕ → ℕ
signed f [] = above (f [])
signed f (b ∷ w) = cond (eqb b 45) (below (f w)) (above (f (b ∷ w)))

pub signed_is : (f : List ℕ → ℕ) (w : List ℕ) → load_of (minus_first w) (f (unsigned w)) ≡ signed f w
signed_is f [] = refl
signed_is f (b ∷ w) = ⊎_elim (λ (e : eqb b 45 ≡ true). rw e) (λ (e : eqb b 45 ≡ false). rw e) (two (eqb b 45))

-- ---- as they are: nothing cut off

abbrev pub all_digits : ℕ → List ℕ → ℕ
all_digits n [] = n
all_digits n (b ∷ w) = all_digits (n * 10 + (b - 48)) w

abbrev pub all_fixed : ℕ → List ℕ → ℕ
all_fixed n [] = n * 1000
all_fixed n (b ∷ w) = cond (eqb b 46) (n * 1000 + three w) (all_fixed (n * 10 + (b - 48)) w)

-- n is written before w as one byte
pub whole_is : (n : ℕ) (w : List ℕ) → whole ((n + 48) ∷ w) ≡ pos (all_digits n w)
whole_is n [] = let e : 0 * 10 + (n + 48 - 48) ≡ n = omega arith in rw (ne_eqb (n + 48) 45 (λ q. omega arith)) (ap pos e)
whole_is n (b ∷ w) =
    let m = n * 10 + (b - 48) in
    let e : (0 * 10 + (n + 48 - 48)) * 10 + (b - 48) ≡ 0 * 10 + (m + 48 - 48) = omega arith in
    let i = rw (ne_eqb (m + 48) 45 (λ q. omega arith)) at (whole_is m w) in
    rw (ne_eqb (n + 48) 45 (λ q. omega arith), e) i

abbrev before_point : List ℕ → List ℕ
before_point [] = []
before_point (b ∷ w) = cond (eqb b 46) [] (b ∷ before_point w)

pub thousandths_is : (n : ℕ) (w : List ℕ) → thousandths ((n + 48) ∷ w) ≡ pos (all_fixed n w)
thousandths_is n [] =
    let e : (0 * 10 + (n + 48 - 48)) * 1000 + 0 ≡ n * 1000 = omega arith in
    rw (ne_eqb (n + 48) 45 (λ q. omega arith), ne_eqb (n + 48) 46 (λ q. omega arith)) (ap pos e)
thousandths_is n (b ∷ w) = ⊎_elim
    (λ (p : eqb b 46 ≡ true).
    let e : 0 * 10 + (n + 48 - 48) ≡ n = omega arith in
    rw (ne_eqb (n + 48) 45 (λ q. omega arith), ne_eqb (n + 48) 46 (λ q. omega arith), p, e))
    (λ (p : eqb b 46 ≡ false).
    let m = n * 10 + (b - 48) in
    let e : (0 * 10 + (n + 48 - 48)) * 10 + (b - 48) ≡ 0 * 10 + (m + 48 - 48) = omega arith in
    let i = rw (ne_eqb (m + 48) 45 (λ q. omega arith), ne_eqb (m + 48) 46 (λ q. omega arith)) at (thousandths_is m w) in
    rw (ne_eqb (n + 48) 45 (λ q. omega arith), ne_eqb (n + 48) 46 (λ q. omega arith), p)
    (subst (λ (x : ℕ). pos (all_digits x (before_point w) * 1000 + three (behind_point w)) ≡ pos (all_fixed m w)) (sym e) i))
    (two (eqb b 46))

-- ---- within the limits nothing is cut off

at_least : (n : ℕ) (w : List ℕ) → n ≤ all_digits n w
at_least n [] = omega arith
at_least n (b ∷ w) = omega (arith, at_least (n * 10 + (b - 48)) w)

pub digits_are : (n : ℕ) (w : List ℕ) → all_digits n w ≤ integer_limit → digits n w ≡ all_digits n w
digits_are n [] h = refl
digits_are n (b ∷ w) h =
    let l = at_least (n * 10 + (b - 48)) w in
    rw (le-leb (n * 10 + (b - 48)) most (omega arith)) (digits_are (n * 10 + (b - 48)) w h)

at_least_fixed : (n : ℕ) (w : List ℕ) → n * 1000 ≤ all_fixed n w
at_least_fixed n [] = omega arith
at_least_fixed n (b ∷ w) = ⊎_elim
    (λ (p : eqb b 46 ≡ true). rw p (omega arith))
    (λ (p : eqb b 46 ≡ false). rw p (omega (arith, at_least_fixed (n * 10 + (b - 48)) w)))
    (two (eqb b 46))

pub fixed_is : (n : ℕ) (w : List ℕ) → all_fixed n w ≤ real_limit → fixed n w ≡ all_fixed n w
fixed_is n [] h = refl
fixed_is n (b ∷ w) h = ⊎_elim
    (λ (p : eqb b 46 ≡ true). rw p)
    (λ (p : eqb b 46 ≡ false).
    let g = rw p at h in
    let l = at_least_fixed (n * 10 + (b - 48)) w in
    rw (p, le-leb (n * 10 + (b - 48)) most (omega arith)) (fixed_is (n * 10 + (b - 48)) w g))
    (two (eqb b 46))

-- ---- with their signs

pub size_of_negative : (n : ℕ) → nat_abs (neg_ℤ (pos n)) ≡ n
size_of_negative zero = refl
size_of_negative (suc n) = refl

moved_down : (n : ℕ) → n ≤ real_limit → moved (neg_ℤ (pos n)) ≡ below n
moved_down zero h = refl
moved_down (suc n) h = rw (le-ltb real_limit (suc n) h)

load_below : (n : ℕ) → n ≤ real_limit → literal (below n) ≡ neg_ℤ (pos n)
load_below n h = let s = size_of_negative n in ap literal (sym (moved_down n h)) ∙ literal_moved (neg_ℤ (pos n)) (omega arith)

load_above : (n : ℕ) → n ≤ real_limit → literal (above n) ≡ pos n
load_above n h = let e : n + real_limit ≡ real_limit + n = omega arith in ap literal (sym e) ∙ literal_moved (pos n) h

pub whole_plain : (b : ℕ) (w : List ℕ) → eqb b 45 ≡ false → whole (b ∷ w) ≡ pos (all_digits 0 (b ∷ w))
whole_plain b w p =
    let n = b - 48 in
    let e : 0 * 10 + (n + 48 - 48) ≡ n = omega arith in
    let z : 0 * 10 + (b - 48) ≡ n = omega arith in
    rw (p, z) (rw (ne_eqb (n + 48) 45 (λ q. omega arith), e) at (whole_is n w))

pub integer_load : (w : List ℕ) → nat_abs (whole w) ≤ integer_limit → literal (signed (digits 0) w) ≡ whole w
integer_load [] h = refl
integer_load (b ∷ w) h = ⊎_elim
    (λ (p : eqb b 45 ≡ true).
    let f = ap neg_ℤ (whole_is 0 w) in
    let g = rw p at h in
    let s = ap nat_abs f ∙ size_of_negative (all_digits 0 w) in
    let d = digits_are 0 w (omega arith) in
    rw (p, d) (load_below (all_digits 0 w) (omega arith) ∙ sym f))
    (λ (p : eqb b 45 ≡ false).
    let f = whole_plain b w p in
    let s = ap nat_abs f in
    let d = digits_are 0 (b ∷ w) (omega arith) in
    rw (f, p, d) (load_above (all_digits 0 (b ∷ w)) (omega arith)))
    (two (eqb b 45))

pub thousandths_plain : (b : ℕ) (w : List ℕ) → eqb b 45 ≡ false → thousandths (b ∷ w) ≡ pos (all_fixed 0 (b ∷ w))
thousandths_plain b w p = ⊎_elim
    (λ (q : eqb b 46 ≡ true). rw (p, q))
    (λ (q : eqb b 46 ≡ false).
    let n = b - 48 in
    let z : 0 * 10 + (b - 48) ≡ n = omega arith in
    let f : 0 * 10 + (n + 48 - 48) ≡ 0 * 10 + (b - 48) = omega arith in
    let i = rw (ne_eqb (n + 48) 45 (λ q. omega arith), ne_eqb (n + 48) 46 (λ q. omega arith)) at (thousandths_is n w) in
    rw (p, q) (subst (λ (x : ℕ). pos (all_digits x (before_point w) * 1000 + three (behind_point w)) ≡ pos (all_fixed (0 * 10 + (b - 48)) w)) f
    (subst (λ (x : ℕ). pos (all_digits (0 * 10 + (n + 48 - 48)) (before_point w) * 1000 + three (behind_point w)) ≡ pos (all_fixed x w)) (sym z) i)))
    (two (eqb b 46))

pub float_load : (w : List ℕ) → nat_abs (thousandths w) ≤ real_limit → literal (signed (fixed 0) w) ≡ thousandths w
float_load [] h = refl
float_load (b ∷ w) h = ⊎_elim
    (λ (p : eqb b 45 ≡ true).
    let f = ap neg_ℤ (thousandths_is 0 w) in
    let g = rw p at h in
    let s = ap nat_abs f ∙ size_of_negative (all_fixed 0 w) in
    let d = fixed_is 0 w (omega arith) in
    rw (p, d) (load_below (all_fixed 0 w) (omega arith) ∙ sym f))
    (λ (p : eqb b 45 ≡ false).
    let f = thousandths_plain b w p in
    let s = ap nat_abs f in
    let d = fixed_is 0 (b ∷ w) (omega arith) in
    rw (f, p, d) (load_above (all_fixed 0 (b ∷ w)) (omega arith)))
    (two (eqb b 45))
