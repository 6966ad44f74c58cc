-- Law: comp as a function of its two values. Whatever clause of comp fits is the function's, so at most one fits; and what the table
-- of the comparison operators means for numbers.
use Rattle.std.specs.Prelude.{◌≡◌, refl, Bool, true, false, cond, ◌⊎◌, List, [], ◌∷◌, ℕ, zero, suc, ◌≤◌, ◌<◌, ℤ, pos, negsuc, ◌*ℤ◌, ◌<ℤ◌, T, ltb}
use Rattle.std.proofs.Common.{sym, ap, subst, ◌∙◌, inl, inr, arith, ltb→lt, ltb-true, ltb-false, lt-ltb, le-ltb}
use Rattle.std.specs.Int.Signed.{lt_z, lt_z_yes}
use Rattle.paper_expressions.specs.Bytes.{folded, Alike}
use Rattle.paper_expressions.specs.Values.{Scalar, unknown, truth, integer, real, text, Value, one, sequence, unit}
use Rattle.paper_expressions.specs.Values.{IsUnknown, is-unknown, Number, integer_is, real_is, IsText, is_text, IsSequence, is_sequence, NonEmpty, non_empty}
use Rattle.paper_expressions.specs.Values.{EitherUnknown, BothNumbers, BothTexts, BothNonEmpty, BothEmpty}
use Rattle.paper_expressions.specs.Clauses.{Clause, §11·1·3-1, §11·1·3-2a, §11·1·3-2b, §11·1·3-2c, §11·1·3-3a, §11·1·3-3b, §11·1·3-3c}
use Rattle.paper_expressions.specs.Clauses.{§11·1·3-4a, §11·1·3-4b, §11·1·3-4c, §11·1·3-5, §11·1·3-6, §11·1·3-7}
use Rattle.paper_expressions.specs.Operators.{Sign, +1, -1, ±0, ±?, Before, prefix, at_byte, later, TextLess, Else1, Else2, Else3, Else4, Else5, Else6}
use Rattle.paper_expressions.specs.Operators.{Comp, comp_1, comp_2a, comp_2b, comp_2c, comp_3a, comp_3b, comp_3c, comp_4a, comp_4b, comp_4c, comp_5, comp_6, comp_7}
use Rattle.paper_expressions.specs.Operators.{Comparison, is>, is<, is>=, is<=, is=, is!=, table}
use Rattle.paper_expressions.proofs.Laws.Search.{no_clash, Reflects, of_yes, of_no}

-- what comp comes to: its clause and its value, or that no clause fits
pub data Verdict : Type 0 where
  got : Clause → Sign → Verdict
  stuck : Verdict

abbrev pub three : Sign → Clause → Clause → Clause → Verdict
three +1 a b c = got a +1
three -1 a b c = got b -1
three ±0 a b c = got c ±0
three ±? a b c = stuck

-- ---- numbers

abbrev pub order_z : ℤ → ℤ → Sign
order_z x y = cond (lt_z y x) +1 (cond (lt_z x y) -1 ±0)

T_true : (b : Bool) → T b → b ≡ true
T_true true h = refl
T_true false h = absurd h

T_false : (b : Bool) → ¬ T b → b ≡ false
T_false true h = absurd (h tt)
T_false false h = refl

asym : (x y : ℤ) → T (lt_z x y) → ¬ T (lt_z y x)
asym (pos a) (pos b) h k = let h' = ltb→lt a b h in let k' = ltb→lt b a k in omega arith
asym (pos a) (negsuc b) h k = h
asym (negsuc a) (pos b) h k = k
asym (negsuc a) (negsuc b) h k = let h' = ltb→lt b a h in let k' = ltb→lt a b k in omega arith

pub greater_z : {x y : ℤ} → y <ℤ x → order_z x y ≡ +1
greater_z {x} {y} h = rw (T_true (lt_z y x) h.lt)

pub less_z : {x y : ℤ} → x <ℤ y → order_z x y ≡ -1
less_z {x} {y} h = rw (T_true (lt_z x y) h.lt, T_false (lt_z y x) (asym x y h.lt))

pub equal_z : {x y : ℤ} → x ≡ y → order_z x y ≡ ±0
equal_z {x} {y} e = subst (λ (z : ℤ). order_z x z ≡ ±0) e (rw (T_false (lt_z x x) (λ k. asym x x k k)))

total : (x y : ℤ) → lt_z y x ≡ false → lt_z x y ≡ false → x ≡ y
total (pos a) (pos b) h k = ap pos (let z : a ≡ b = omega (arith, ltb-false b a h, ltb-false a b k) in z)
total (pos a) (negsuc b) h k = cc
total (negsuc a) (pos b) h k = cc
total (negsuc a) (negsuc b) h k = ap negsuc (let z : a ≡ b = omega (arith, ltb-false a b h, ltb-false b a k) in z)

pub data OrderZ (x y : ℤ) : Type 0 where
  greater : y <ℤ x → OrderZ x y
  less : x <ℤ y → OrderZ x y
  equal : x ≡ y → OrderZ x y

pub ordered : (x y : ℤ) → OrderZ x y
ordered x y = go (lt_z y x) (lt_z x y) refl refl
  where
    go : (a b : Bool) → lt_z y x ≡ a → lt_z x y ≡ b → OrderZ x y
    go true b h k = greater (lt_z_yes (subst T (sym h) tt))
    go false true h k = less (lt_z_yes (subst T (sym k) tt))
    go false false h k = equal (total x y h k)

-- ---- texts, byte by byte

abbrev pub byte : ℕ → ℕ → Sign → Sign
byte a b s = cond (ltb b a) +1 (cond (ltb a b) -1 s)

abbrev pub order_t : List ℕ → List ℕ → Sign
order_t [] [] = ±0
order_t [] (b ∷ t) = -1
order_t (a ∷ s) [] = +1
order_t (a ∷ s) (b ∷ t) = byte a b (order_t s t)

byte_greater : (a b : ℕ) (s : Sign) → b < a → byte a b s ≡ +1
byte_greater a b s h = rw (lt-ltb b a h)

byte_less : (a b : ℕ) (s : Sign) → a < b → byte a b s ≡ -1
byte_less a b s h = rw (lt-ltb a b h, le-ltb b a (let z : a ≤ b = omega arith in z))

byte_same : (a : ℕ) (s : Sign) → byte a a s ≡ s
byte_same a s = rw (le-ltb a a (let z : a ≤ a = omega arith in z))

pub less_t : {s t : List ℕ} → Before s t → order_t s t ≡ -1
less_t prefix = refl
less_t (at_byte {a} {b} {s} {t} h) = byte_less a b (order_t s t) h
less_t (later {a} {s} {t} h) = byte_same a (order_t s t) ∙ less_t h

pub greater_t : {s t : List ℕ} → Before s t → order_t t s ≡ +1
greater_t prefix = refl
greater_t (at_byte {a} {b} {s} {t} h) = byte_greater b a (order_t t s) h
greater_t (later {a} {s} {t} h) = byte_same a (order_t t s) ∙ greater_t h

level : (s : List ℕ) → order_t s s ≡ ±0
level [] = refl
level (a ∷ s) = byte_same a (order_t s s) ∙ level s

pub same_t : {s t : List ℕ} → s ≡ t → order_t s t ≡ ±0
same_t {s} e = subst (λ (x : List ℕ). order_t s x ≡ ±0) e (level s)

pub data OrderT (s t : List ℕ) : Type 0 where
  greater : Before t s → OrderT s t
  less : Before s t → OrderT s t
  equal : s ≡ t → OrderT s t

pub spelled : (s t : List ℕ) → OrderT s t
spelled [] [] = equal refl
spelled [] (b ∷ t) = less prefix
spelled (a ∷ s) [] = greater prefix
spelled (a ∷ s) (b ∷ t) = go (ltb b a) (ltb a b) refl refl (spelled s t)
  where
    then : OrderT s t → OrderT (a ∷ s) (a ∷ t)
    then (greater h) = greater (later h)
    then (less h) = less (later h)
    then (equal h) = equal (ap (◌∷◌ a) h)

    go : (x y : Bool) → ltb b a ≡ x → ltb a b ≡ y → OrderT s t → OrderT (a ∷ s) (b ∷ t)
    go true y h k o = greater (at_byte (ltb-true b a h))
    go false true h k o = less (at_byte (ltb-true a b k))
    go false false h k o = let e : a ≡ b = omega (arith, ltb-false b a h, ltb-false a b k) in subst (λ (x : ℕ). OrderT (a ∷ s) (x ∷ t)) e (then o)

-- ---- values, by kind

pub data Simple : Type 0 where
  nothing : Simple
  number : ℤ → Simple
  string : List ℕ → Simple
  verity : Simple

pub data Kind : Type 0 where
  simple : Simple → Kind
  several : List Scalar → Kind

abbrev pub kind_s : Scalar → Simple
kind_s unknown = nothing
kind_s (truth b) = verity
kind_s (integer n) = number (n *ℤ unit)
kind_s (real n) = number n
kind_s (text s) = string s

abbrev pub kind : Value → Kind
kind (one s) = simple (kind_s s)
kind (sequence l) = several l

abbrev pub comp_s : Simple → Simple → Verdict
comp_s nothing k = got §11·1·3-1 ±?
comp_s (number x) nothing = got §11·1·3-1 ±?
comp_s (number x) (number y) = three (order_z x y) §11·1·3-2a §11·1·3-2b §11·1·3-2c
comp_s (number x) (string t) = stuck
comp_s (number x) verity = stuck
comp_s (string s) nothing = got §11·1·3-1 ±?
comp_s (string s) (number y) = stuck
comp_s (string s) (string t) = three (order_t (folded s) (folded t)) §11·1·3-3a §11·1·3-3b §11·1·3-3c
comp_s (string s) verity = stuck
comp_s verity nothing = got §11·1·3-1 ±?
comp_s verity (number y) = stuck
comp_s verity (string t) = stuck
comp_s verity verity = stuck

abbrev pub on : Verdict → Verdict
on (got c s) = got §11·1·3-4c s
on stuck = stuck

abbrev pub heads : Verdict → Verdict → Verdict
heads (got c +1) r = got §11·1·3-4a +1
heads (got c -1) r = got §11·1·3-4b -1
heads (got c ±0) r = on r
heads (got c ±?) r = on r
heads stuck r = stuck

abbrev pub comp_l : List Scalar → List Scalar → Verdict
comp_l [] [] = got §11·1·3-5 ±0
comp_l [] (b ∷ m) = got §11·1·3-6 -1
comp_l (a ∷ l) [] = got §11·1·3-7 +1
comp_l (a ∷ l) (b ∷ m) = heads (comp_s (kind_s a) (kind_s b)) (comp_l l m)

-- a sequence beside what is neither unknown nor a sequence
abbrev pub left_end : List Scalar → Verdict
left_end [] = got §11·1·3-6 -1
left_end (a ∷ l) = stuck

abbrev pub right_end : List Scalar → Verdict
right_end [] = got §11·1·3-7 +1
right_end (b ∷ m) = stuck

abbrev pub comp_k : Kind → Kind → Verdict
comp_k (simple a) (simple b) = comp_s a b
comp_k (simple nothing) (several m) = got §11·1·3-1 ±?
comp_k (simple (number x)) (several m) = right_end m
comp_k (simple (string s)) (several m) = right_end m
comp_k (simple verity) (several m) = right_end m
comp_k (several l) (simple nothing) = got §11·1·3-1 ±?
comp_k (several l) (simple (number x)) = left_end l
comp_k (several l) (simple (string s)) = left_end l
comp_k (several l) (simple verity) = left_end l
comp_k (several l) (several m) = comp_l l m

abbrev pub comp_f : Value → Value → Verdict
comp_f v w = comp_k (kind v) (kind w)

number_kind : {v : Value} {x : ℤ} → Number v x → kind v ≡ simple (number x)
number_kind integer_is = refl
number_kind real_is = refl

text_kind : {v : Value} {s : List ℕ} → IsText v s → kind v ≡ simple (string s)
text_kind is_text = refl

nothing_left : (k : Kind) → comp_k (simple nothing) k ≡ got §11·1·3-1 ±?
nothing_left (simple s) = refl
nothing_left (several l) = refl

nothing_right : (k : Kind) → comp_k k (simple nothing) ≡ got §11·1·3-1 ±?
nothing_right (simple nothing) = refl
nothing_right (simple (number x)) = refl
nothing_right (simple (string s)) = refl
nothing_right (simple verity) = refl
nothing_right (several l) = refl

on_heads : (c : Clause) (h : Sign) (r : Verdict) → ¬ (h ≡ +1) → ¬ (h ≡ -1) → heads (got c h) r ≡ on r
on_heads c +1 r n m = absurd (n refl)
on_heads c -1 r n m = absurd (m refl)
on_heads c ±0 r n m = refl
on_heads c ±? r n m = refl

up_heads : (c : Clause) (h : Sign) (r : Verdict) → h ≡ +1 → heads (got c h) r ≡ got §11·1·3-4a +1
up_heads c h r e = rw e

down_heads : (c : Clause) (h : Sign) (r : Verdict) → h ≡ -1 → heads (got c h) r ≡ got §11·1·3-4b -1
down_heads c h r e = rw e

empty_left : (w : Value) → ¬ EitherUnknown (sequence []) w → ¬ BothEmpty (sequence []) w → comp_f (sequence []) w ≡ got §11·1·3-6 -1
empty_left (one unknown) n m = absurd (n (inr is-unknown))
empty_left (one (truth b)) n m = refl
empty_left (one (integer x)) n m = refl
empty_left (one (real x)) n m = refl
empty_left (one (text s)) n m = refl
empty_left (sequence []) n m = absurd (m (is_sequence, is_sequence))
empty_left (sequence (b ∷ l)) n m = refl

empty_right : (v : Value) → ¬ EitherUnknown v (sequence []) → ¬ IsSequence v [] → comp_f v (sequence []) ≡ got §11·1·3-7 +1
empty_right (one unknown) n m = absurd (n (inl is-unknown))
empty_right (one (truth b)) n m = refl
empty_right (one (integer x)) n m = refl
empty_right (one (real x)) n m = refl
empty_right (one (text s)) n m = refl
empty_right (sequence []) n m = absurd (m is_sequence)
empty_right (sequence (a ∷ l)) n m = refl

both_ended : {v w : Value} → IsSequence v [] → IsSequence w [] → comp_f v w ≡ got §11·1·3-5 ±0
both_ended is_sequence is_sequence = refl

-- the clause of comp that fits is the function's
pub comp_only : {v w : Value} {c : Clause} {s : Sign} → Comp v w c s → comp_f v w ≡ got c s
comp_only (comp_1 {v2} (inl is-unknown)) = nothing_left (kind v2)
comp_only (comp_1 {v1} (inr is-unknown)) = nothing_right (kind v1)
comp_only (comp_2a n h k o) = rw (number_kind h, number_kind k, greater_z o)
comp_only (comp_2b n h k g o) = rw (number_kind h, number_kind k, less_z o)
comp_only (comp_2c n h k g l o) = rw (number_kind h, number_kind k, equal_z o)
comp_only (comp_3a n h k o) = rw (text_kind h, text_kind k, greater_t o)
comp_only (comp_3b n h k g o) = rw (text_kind h, text_kind k, less_t o)
comp_only (comp_3c n h k g l o) = rw (text_kind h, text_kind k, same_t o)
comp_only (comp_4a {l} {m} {c} {h} n is_sequence is_sequence g e) = rw (comp_only g) (up_heads c h (comp_l l m) e)
comp_only (comp_4b {l} {m} {c} {h} n is_sequence is_sequence g u e) = rw (comp_only g) (down_heads c h (comp_l l m) e)
comp_only (comp_4c {l} {m} {c} {h} n is_sequence is_sequence g u d t) = rw (comp_only g) (on_heads c h (comp_l l m) u d ∙ rw (comp_only t))
comp_only (comp_5 n b) = both_ended b.0 b.1
comp_only (comp_6 {v2} n is_sequence) = empty_left v2 n.0.0.0.0 n.1
comp_only (comp_7 {v1} n is_sequence) = empty_right v1 n.0.0.0.0.0 n.1

-- one sign
pub one_sign : {u v : Value} {c d : Clause} {s t : Sign} → Comp u v c s → Comp u v d t → s ≡ t
one_sign a b = cc (comp_only a, comp_only b)

-- ---- a clause fits

pub record Compared (v w : Value) : Type 0 where
  pub clause : Clause
  pub sign : Sign
  pub fits : Comp v w clause sign

it_compares : {v w : Value} {c : Clause} {s : Sign} → Comp v w c s → Compared v w
it_compares h = record { clause = _; sign = _; fits = h }

pub unknown_left : {v w : Value} → IsUnknown v → Compared v w
unknown_left u = it_compares (comp_1 (inl u))

pub unknown_right : {v w : Value} → IsUnknown w → Compared v w
unknown_right u = it_compares (comp_1 (inr u))

pub unknown_no_number : {v : Value} {x : ℤ} → IsUnknown v → ¬ Number v x
unknown_no_number is-unknown k = elim k [ ]

pub unknown_no_text : {v : Value} {s : List ℕ} → IsUnknown v → ¬ IsText v s
unknown_no_text is-unknown k = elim k [ ]

pub number_no_text : {v : Value} {x : ℤ} {s : List ℕ} → Number v x → ¬ IsText v s
number_no_text integer_is k = elim k [ ]
number_no_text real_is k = elim k [ ]

pub numbers_known : {v w : Value} {x y : ℤ} → Number v x → Number w y → Else1 v w
numbers_known h k (inl u) = unknown_no_number u h
numbers_known h k (inr u) = unknown_no_number u k

pub texts_known : {v w : Value} {s t : List ℕ} → IsText v s → IsText w t → ¬ EitherUnknown v w
texts_known h k (inl u) = unknown_no_text u h
texts_known h k (inr u) = unknown_no_text u k

pub not_greater : {x y : ℤ} → x <ℤ y → ¬ (y <ℤ x)
not_greater h k = no_clash (cc (less_z h, greater_z k))

pub not_greater_same : {x y : ℤ} → x ≡ y → ¬ (y <ℤ x)
not_greater_same h k = no_clash (cc (equal_z h, greater_z k))

pub not_less_same : {x y : ℤ} → x ≡ y → ¬ (x <ℤ y)
not_less_same h k = no_clash (cc (equal_z h, less_z k))

pub comp_numbers : {v w : Value} {x y : ℤ} → Number v x → Number w y → Compared v w
comp_numbers {v} {w} {x} {y} h k = go (ordered x y)
  where
    go : OrderZ x y → Compared v w
    go (OrderZ.greater o) = it_compares (comp_2a (numbers_known h k) h k o)
    go (OrderZ.less o) = it_compares (comp_2b (numbers_known h k) h k (not_greater o) o)
    go (OrderZ.equal o) = it_compares (comp_2c (numbers_known h k) h k (not_greater_same o) (not_less_same o) o)

pub comp_texts : {v w : Value} {s t : List ℕ} → IsText v s → IsText w t → Compared v w
comp_texts {v} {w} {s} {t} h k = go (spelled (folded s) (folded t))
  where
    past : Else2 v w
    past = (texts_known h k, λ b. number_no_text b.2 h)

    go : OrderT (folded s) (folded t) → Compared v w
    go (OrderT.greater o) = it_compares (comp_3a past h k o)
    go (OrderT.less o) = it_compares (comp_3b past h k (λ g. no_clash (cc (less_t o, greater_t g))) o)
    go (OrderT.equal o) = it_compares (comp_3c past h k (λ g. no_clash (cc (same_t o, greater_t g))) (λ l. no_clash (cc (same_t o, less_t l))) o)

-- sequences are neither unknown nor numbers nor texts
sequence_known : {l : List Scalar} → ¬ IsUnknown (sequence l)
sequence_known h = elim h [ ]

pub sequence_else : {v : Value} (m : List Scalar) → ¬ IsUnknown v → Else3 v (sequence m)
sequence_else {v} m n = ((known, λ b. elim b.3 [ ]), λ b. elim b.3 [ ])
  where
    known : ¬ EitherUnknown v (sequence m)
    known (inl u) = n u
    known (inr u) = sequence_known u

not_non_empty : ¬ NonEmpty (sequence [])
not_non_empty h = elim h [ ]

pub comp_ends : Compared (sequence []) (sequence [])
comp_ends = it_compares (comp_5 (sequence_else [] sequence_known, λ b. not_non_empty b.0) (is_sequence, is_sequence))

pub comp_end_left : {b : Scalar} {m : List Scalar} → Compared (sequence []) (sequence (b ∷ m))
comp_end_left {b} {m} = it_compares (comp_6 ((sequence_else (b ∷ m) sequence_known, λ q. not_non_empty q.0), λ q. elim q.1 [ ]) is_sequence)

-- what is neither unknown nor an empty sequence, beside an empty sequence
pub comp_end_right : {v : Value} → ¬ IsUnknown v → ¬ IsSequence v [] → Compared v (sequence [])
comp_end_right n m = it_compares (comp_7 (((sequence_else [] n, λ q. not_non_empty q.1), λ q. m q.0), m) is_sequence)

pub comp_tails : {a b : Scalar} {l m : List Scalar} → Compared (one a) (one b) → Compared (sequence l) (sequence m) → Compared (sequence (a ∷ l)) (sequence (b ∷ m))
comp_tails {a} {b} {l} {m} h t = go h.sign h.fits
  where
    past : Else3 (sequence (a ∷ l)) (sequence (b ∷ m))
    past = sequence_else (b ∷ m) sequence_known

    go : (s : Sign) → Comp (one a) (one b) h.clause s → Compared (sequence (a ∷ l)) (sequence (b ∷ m))
    go +1 k = it_compares (comp_4a past is_sequence is_sequence k refl)
    go -1 k = it_compares (comp_4b past is_sequence is_sequence k (λ e. no_clash (cc)) refl)
    go ±0 k = it_compares (comp_4c past is_sequence is_sequence k (λ e. no_clash (cc)) (λ e. no_clash (cc)) t.fits)
    go ±? k = it_compares (comp_4c past is_sequence is_sequence k (λ e. no_clash (cc)) (λ e. no_clash (cc)) t.fits)

-- ---- what the table means for numbers, and that it says false where comp is unknown

abbrev pub Relates : Comparison → ℤ → ℤ → Type 0
Relates is> x y = y <ℤ x
Relates is< x y = x <ℤ y
Relates is>= x y = ¬ (x <ℤ y)
Relates is<= x y = ¬ (y <ℤ x)
Relates is= x y = x ≡ y
Relates is!= x y = ¬ (x ≡ y)

by_order : (o : Comparison) {x y : ℤ} → OrderZ x y → Reflects (Relates o x y) (table o (order_z x y))
by_order is> (OrderZ.greater h) = rw (greater_z h) (of_yes h)
by_order is> (OrderZ.less h) = rw (less_z h) (of_no (not_greater h))
by_order is> (OrderZ.equal h) = rw (equal_z h) (of_no (not_greater_same h))
by_order is< (OrderZ.greater h) = rw (greater_z h) (of_no (not_greater h))
by_order is< (OrderZ.less h) = rw (less_z h) (of_yes h)
by_order is< (OrderZ.equal h) = rw (equal_z h) (of_no (not_less_same h))
by_order is>= (OrderZ.greater h) = rw (greater_z h) (of_yes (not_greater h))
by_order is>= (OrderZ.less h) = rw (less_z h) (of_no (λ n. n h))
by_order is>= (OrderZ.equal h) = rw (equal_z h) (of_yes (not_less_same h))
by_order is<= (OrderZ.greater h) = rw (greater_z h) (of_no (λ n. n h))
by_order is<= (OrderZ.less h) = rw (less_z h) (of_yes (not_greater h))
by_order is<= (OrderZ.equal h) = rw (equal_z h) (of_yes (not_greater_same h))
by_order is= (OrderZ.greater h) = rw (greater_z h) (of_no (λ e. not_greater_same e h))
by_order is= (OrderZ.less h) = rw (less_z h) (of_no (λ e. not_less_same e h))
by_order is= (OrderZ.equal h) = rw (equal_z h) (of_yes h)
by_order is!= (OrderZ.greater h) = rw (greater_z h) (of_yes (λ e. not_greater_same e h))
by_order is!= (OrderZ.less h) = rw (less_z h) (of_yes (λ e. not_less_same e h))
by_order is!= (OrderZ.equal h) = rw (equal_z h) (of_no (λ n. n h))

number_sign : {v w : Value} {x y : ℤ} {c : Clause} {s : Sign} → Number v x → Number w y → Comp v w c s → s ≡ order_z x y
number_sign {v} {w} {x} {y} {s} h k g = go (ordered x y)
  where
    known : Else1 v w
    known = numbers_known h k

    go : OrderZ x y → s ≡ order_z x y
    go (OrderZ.greater o) = one_sign g (comp_2a known h k o) ∙ sym (greater_z o)
    go (OrderZ.less o) = one_sign g (comp_2b known h k (not_greater o) o) ∙ sym (less_z o)
    go (OrderZ.equal o) = one_sign g (comp_2c known h k (not_greater_same o) (not_less_same o) o) ∙ sym (equal_z o)

pub table_of_numbers : (o : Comparison) {v w : Value} {x y : ℤ} {c : Clause} {s : Sign} → Number v x → Number w y → Comp v w c s → Reflects (Relates o x y) (table o s)
table_of_numbers o {x} {y} h k g = subst (λ (q : Sign). Reflects (Relates o x y) (table o q)) (sym (number_sign h k g)) (by_order o (ordered x y))

pub table_of_unknown : (o : Comparison) → table o ±? ≡ false
table_of_unknown is> = refl
table_of_unknown is< = refl
table_of_unknown is>= = refl
table_of_unknown is<= = refl
table_of_unknown is= = refl
table_of_unknown is!= = refl
