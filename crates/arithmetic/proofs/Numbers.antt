-- Arithmetic: the code's functions on scalars come to what the definitions' come to, by the variants; and an integer times a real needs no cut.
use mathlib.Core.Path.{◌≡◌, refl, sym, ap, ap₂, ◌∙◌}
use mathlib.Core.Bool.{Bool, true, false, cond}
use mathlib.Core.List.{List, [], ◌∷◌}
use Prim.Native.Nat.{ℕ, zero, suc, ◌*◌, ◌/◌, ◌≤◌}
use native.Mathlib.Nat.{mul_right_comm, mul-div_cancel, zero-div, zero-mul}
use lib.IntN.{ℤ, pos, negsuc, nat_abs, neg_ℤ, ◌-ℤ◌, ◌*ℤ◌, *ℤ_comm, +ℤ_idl}
use lib.Signed.{quot_z}
use lib.Dec.{leb, lit<}
use borrow.Author.Tests.{le-leb}
use Rattle.paper_expressions.specs.Limits.{integer_limit, real_limit}
use Rattle.paper_expressions.specs.Values as paper
use Rattle.paper_expressions.specs.Values.{unknown, integer, real, Value, one, sequence, unit}
use Rattle.paper_expressions.specs.Clauses.{§11·1·1-1a, §11·1·1-1b, §11·1·1-1c, §11·1·1-1d, §11·1·2-1a, §11·1·2-1b, §11·1·2-1c}
use Rattle.paper_expressions.proofs.Laws.WithinLimits.{Limited, one_limited, integer_small, real_small}
use Rattle.paper_expressions.specs.Operators as section-11
use Rattle.paper_expressions.specs.Operators.{whole, decimal, cut, quotient}
use Rattle.paper_expressions.proofs.Laws.Only.{gives, Summand, absent, other_sort, entire, part, summand, arith_f, whole_sum, real_sum, zero_z, divided_f, Term, missing, other, amount, term, over, negate_f}
use Rattle.values.specs.declared.scalar.Scalar.{Scalar}
use Rattle.values.specs.declared.scalar.Scalar.TheVariants.{Unknown, Truth, Int, Real, Text}
use Rattle.values.specs.declared.value.Value as Code
use Rattle.values.specs.Meaning.{meaning, meaning_l, meaning_v, valued, scalar_of, num, integer_of, real_of_fn}
use Rattle.operators.specs.declared.operator.Arithmetic.{Arithmetic}
use Rattle.operators.specs.declared.operator.Arithmetic.TheVariants.{Plus, Minus, Times}
use Rattle.operators.specs.Means.{operation, meanings}
use Rattle.operators.specs.Comes.{given, comes, lowered, lowered_is}
use Rattle.arithmetic.specs.Twins.{combined, arith_c, quotient_c, divide_by, divide_c, negate_c}

-- ---- a thousand times, cut by a thousand

scale : (a b : ℕ) → a * 1000 * b / 1000 ≡ a * b
scale a b = rw (mul_right_comm a 1000 b) (mul-div_cancel (a * b) (lit< tt))

neg_quot : (n d : ℕ) → quot_z (neg_ℤ (pos n)) (pos d) ≡ neg_ℤ (pos (n / d))
neg_quot zero d = rw (zero-div d)
neg_quot (suc n) d = refl

neg_pos : (m n : ℕ) → neg_ℤ (pos m) *ℤ pos n ≡ neg_ℤ (pos (m * n))
neg_pos zero n = rw (zero-mul n)
neg_pos (suc m) n = refl

neg_neg : (m n : ℕ) → neg_ℤ (pos m) *ℤ negsuc n ≡ pos (m * suc n)
neg_neg zero n = rw (zero-mul (suc n))
neg_neg (suc m) n = refl

-- an integer times a real needs no cut
no_cut : (x y : ℤ) → cut (x *ℤ unit *ℤ y) unit ≡ x *ℤ y
no_cut (pos a) (pos b) = ap pos (scale a b)
no_cut (pos a) (negsuc b) = neg_quot (a * 1000 * suc b) 1000 ∙ ap (λ (n : ℕ). neg_ℤ (pos n)) (scale a (suc b))
no_cut (negsuc a) (pos b) =
    ap (λ (z : ℤ). quot_z z unit) (neg_pos (suc a * 1000) b) ∙ neg_quot (suc a * 1000 * b) 1000 ∙ ap (λ (n : ℕ). neg_ℤ (pos n)) (scale (suc a) b)
no_cut (negsuc a) (negsuc b) = ap (λ (z : ℤ). quot_z z unit) (neg_neg (suc a * 1000) b) ∙ ap pos (scale (suc a) (suc b))

no_cut_right : (x y : ℤ) → cut (x *ℤ (y *ℤ unit)) unit ≡ x *ℤ y
no_cut_right x y = ap (λ (z : ℤ). quot_z z unit) (*ℤ_comm x (y *ℤ unit)) ∙ no_cut y x ∙ *ℤ_comm y x

-- ---- the sum, the difference and the product

pub whole_is : (o : Arithmetic) (x y : ℤ) → combined o x y (x *ℤ y) ≡ whole (operation o) x y
whole_is Plus x y = refl
whole_is Minus x y = refl
whole_is Times x y = refl

pub decimal_is : (o : Arithmetic) (x y : ℤ) → combined o x y (decimal section-11.times x y) ≡ decimal (operation o) x y
decimal_is Plus x y = refl
decimal_is Minus x y = refl
decimal_is Times x y = refl

pub left_is : (o : Arithmetic) (x y : ℤ) → combined o (x *ℤ unit) y (x *ℤ y) ≡ decimal (operation o) (x *ℤ unit) y
left_is Plus x y = refl
left_is Minus x y = refl
left_is Times x y = sym (no_cut x y)

pub right_is : (o : Arithmetic) (x y : ℤ) → combined o x (y *ℤ unit) (x *ℤ y) ≡ decimal (operation o) x (y *ℤ unit)
right_is Plus x y = refl
right_is Minus x y = refl
right_is Times x y = sym (no_cut_right x y)

-- from the code's steps
pub made : (o : Arithmetic) {w x y p x' y' p' : ℤ} → w ≡ combined o x y p → x ≡ x' → y ≡ y' → p ≡ p' → w ≡ combined o x' y' p'
made o e f g h = e ∙ (rw (f, g, h))

-- ---- what a limit leaves

integer_given : (bs : List ℕ) (z : ℤ) → one (meaning bs (integer_of z)) ≡ given (whole_sum z)
integer_given bs z = go (leb (nat_abs z) integer_limit)
  where
    go : (b : Bool) → one (meaning bs (cond b (Int (num z)) Unknown)) ≡ given (cond b (gives §11·1·1-1a (one (integer z))) (gives §11·1·1-1b (one unknown)))
    go true = refl
    go false = refl

real_given : (bs : List ℕ) (z : ℤ) → one (meaning bs (real_of_fn z)) ≡ given (real_sum z)
real_given bs z = go (leb (nat_abs z) real_limit)
  where
    go : (b : Bool) → one (meaning bs (cond b (Real (num z)) Unknown)) ≡ given (cond b (gives §11·1·1-1c (one (real z))) (gives §11·1·1-1d (one unknown)))
    go true = refl
    go false = refl

-- ---- "+", "-", "*"

arith_scalars : (bs : List ℕ) (o : Arithmetic) (a b : Scalar)
    → one (meaning bs (arith_c o a b)) ≡ given (arith_f (operation o) (summand (one (meaning bs a))) (summand (one (meaning bs b))))
arith_scalars bs o Unknown b = refl
arith_scalars bs o (Truth t) Unknown = refl
arith_scalars bs o (Truth t) (Truth u) = refl
arith_scalars bs o (Truth t) (Int y) = refl
arith_scalars bs o (Truth t) (Real y) = refl
arith_scalars bs o (Truth t) (Text k) = refl
arith_scalars bs o (Int x) Unknown = refl
arith_scalars bs o (Int x) (Truth u) = refl
arith_scalars bs o (Int x) (Int y) = integer_given bs (whole (operation o) x.z y.z)
arith_scalars bs o (Int x) (Real y) = real_given bs (decimal (operation o) (x.z *ℤ unit) y.z)
arith_scalars bs o (Int x) (Text k) = refl
arith_scalars bs o (Real x) Unknown = refl
arith_scalars bs o (Real x) (Truth u) = refl
arith_scalars bs o (Real x) (Int y) = real_given bs (decimal (operation o) x.z (y.z *ℤ unit))
arith_scalars bs o (Real x) (Real y) = real_given bs (decimal (operation o) x.z y.z)
arith_scalars bs o (Real x) (Text k) = refl
arith_scalars bs o (Text h) Unknown = refl
arith_scalars bs o (Text h) (Truth u) = refl
arith_scalars bs o (Text h) (Int y) = refl
arith_scalars bs o (Text h) (Real y) = refl
arith_scalars bs o (Text h) (Text k) = refl

sort_left : (o : section-11.Arithmetic) (s : Summand) → given (arith_f o absent s) ≡ given (arith_f o other_sort s)
sort_left o absent = refl
sort_left o other_sort = refl
sort_left o (entire x) = refl
sort_left o (part x) = refl

sort_right : (o : section-11.Arithmetic) (s : Summand) → given (arith_f o s absent) ≡ given (arith_f o s other_sort)
sort_right o absent = refl
sort_right o other_sort = refl
sort_right o (entire x) = refl
sort_right o (part x) = refl

arith_lowered : (o : section-11.Arithmetic) (v w : Value)
    → given (arith_f o (summand (one (lowered v))) (summand (one (lowered w)))) ≡ given (arith_f o (summand v) (summand w))
arith_lowered o (one s) (one t) = refl
arith_lowered o (one s) (sequence m) = sort_right o (summand (one s))
arith_lowered o (sequence l) w = sort_left o (summand w)

pub arithmetic_comes : (bs : List ℕ) (o : Arithmetic) (a b : Code.Value) {s : Scalar} → s ≡ arith_c o (scalar_of a) (scalar_of b)
    → one (meaning bs s) ≡ comes (section-11.arithmetic (operation o)) (meanings bs (a ∷ b ∷ []))
arithmetic_comes bs o a b e =
    ap (λ (x : Scalar). one (meaning bs x)) e
    ∙ arith_scalars bs o (scalar_of a) (scalar_of b)
    ∙ ap₂ (λ (x y : paper.Scalar). given (arith_f (operation o) (summand (one x)) (summand (one y)))) (lowered_is bs a) (lowered_is bs b)
    ∙ arith_lowered (operation o) (meaning_v bs a) (meaning_v bs b)

-- ---- "/"

divided_given : (bs : List ℕ) (x y : ℤ) → one (meaning bs (quotient_c x y)) ≡ given (divided_f x y)
divided_given bs x y = go (zero_z y) (leb (nat_abs (quotient x y)) real_limit)
  where
    go : (p q : Bool) → one (meaning bs (cond p Unknown (cond q (Real (num (quotient x y))) Unknown)))
        ≡ given (cond p (gives §11·1·2-1c (one unknown)) (cond q (gives §11·1·2-1a (one (real (quotient x y)))) (gives §11·1·2-1b (one unknown))))
    go true q = refl
    go false true = refl
    go false false = refl

by_scalar : (bs : List ℕ) (x : ℤ) (b : Scalar) → one (meaning bs (divide_by x b)) ≡ given (over (amount x) (term (one (meaning bs b))))
by_scalar bs x Unknown = refl
by_scalar bs x (Truth u) = refl
by_scalar bs x (Int y) = divided_given bs x (y.z *ℤ unit)
by_scalar bs x (Real y) = divided_given bs x y.z
by_scalar bs x (Text k) = refl

other_left : (bs : List ℕ) (b : Scalar) → one unknown ≡ given (over other (term (one (meaning bs b))))
other_left bs Unknown = refl
other_left bs (Truth u) = refl
other_left bs (Int y) = refl
other_left bs (Real y) = refl
other_left bs (Text k) = refl

divide_scalars : (bs : List ℕ) (a b : Scalar) → one (meaning bs (divide_c a b)) ≡ given (over (term (one (meaning bs a))) (term (one (meaning bs b))))
divide_scalars bs Unknown b = refl
divide_scalars bs (Truth t) b = other_left bs b
divide_scalars bs (Int x) b = by_scalar bs (x.z *ℤ unit) b
divide_scalars bs (Real x) b = by_scalar bs x.z b
divide_scalars bs (Text h) b = other_left bs b

missing_left : (t : Term) → given (over missing t) ≡ given (over other t)
missing_left missing = refl
missing_left other = refl
missing_left (amount x) = refl

missing_right : (t : Term) → given (over t missing) ≡ given (over t other)
missing_right missing = refl
missing_right other = refl
missing_right (amount x) = refl

divide_lowered : (v w : Value) → given (over (term (one (lowered v))) (term (one (lowered w)))) ≡ given (over (term v) (term w))
divide_lowered (one s) (one t) = refl
divide_lowered (one s) (sequence m) = missing_right (term (one s))
divide_lowered (sequence l) w = lemma w
  where
    lemma : (w : Value) → given (over missing (term (one (lowered w)))) ≡ given (over other (term w))
    lemma w = missing_left (term w)

pub divide_comes : (bs : List ℕ) (a b : Code.Value) {s : Scalar} → s ≡ divide_c (scalar_of a) (scalar_of b)
    → one (meaning bs s) ≡ comes section-11.divide (meanings bs (a ∷ b ∷ []))
divide_comes bs a b e =
    ap (λ (x : Scalar). one (meaning bs x)) e
    ∙ divide_scalars bs (scalar_of a) (scalar_of b)
    ∙ ap₂ (λ (x y : paper.Scalar). given (over (term (one x)) (term (one y)))) (lowered_is bs a) (lowered_is bs b)
    ∙ divide_lowered (meaning_v bs a) (meaning_v bs b)

-- ---- unary minus: a number within its limit has its negation within it

neg_abs : (z : ℤ) → nat_abs (neg_ℤ z) ≡ nat_abs z
neg_abs (pos zero) = refl
neg_abs (pos (suc n)) = refl
neg_abs (negsuc n) = refl

minus_in : (z : ℤ) (m : ℕ) → nat_abs z ≤ m → leb (nat_abs (pos 0 -ℤ z)) m ≡ true
minus_in z m h = rw (+ℤ_idl (neg_ℤ z), neg_abs z) (le-leb (nat_abs z) m h)

negate_scalars : (bs : List ℕ) (a : Scalar) → Limited (one (meaning bs a)) → one (meaning bs (negate_c a)) ≡ given (negate_f (one (meaning bs a)))
negate_scalars bs Unknown l = refl
negate_scalars bs (Truth t) l = refl
negate_scalars bs (Int n) (one_limited (integer_small i)) = rw (minus_in n.z integer_limit i, +ℤ_idl (neg_ℤ n.z))
negate_scalars bs (Real n) (one_limited (real_small i)) = rw (minus_in n.z real_limit i, +ℤ_idl (neg_ℤ n.z))
negate_scalars bs (Text h) l = refl

pub negate_comes : (bs : List ℕ) (a : Code.Value) {s : Scalar} → s ≡ negate_c (scalar_of a) → Limited (meaning_v bs a)
    → one (meaning bs s) ≡ comes section-11.negate (meanings bs (a ∷ []))
negate_comes bs a e l = ap (λ (x : Scalar). one (meaning bs x)) e ∙ go a.many a.one (meaning_l bs a.list) l
  where
    go : (b : Bool) (s : Scalar) (m : List paper.Scalar) → Limited (valued b (meaning bs s) m)
        → one (meaning bs (negate_c (cond b Unknown s))) ≡ given (negate_f (valued b (meaning bs s) m))
    go true s m l = refl
    go false s m l = negate_scalars bs s l
