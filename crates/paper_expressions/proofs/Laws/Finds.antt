-- Law: each operator, at values of one of its allowed types, finds a clause, whose value is of the result type. By what a value of
-- each type can be; promotions are inclusions of values.
use Rattle.std.specs.Prelude.{◌≡◌, refl, Bool, true, false, ◌⊎◌, List, [], ◌∷◌, ℕ, zero, suc, ◌≤◌, ◌<◌, ℤ, pos, negsuc, nat_abs, ◌+ℤ◌, ◌*ℤ◌, get_or, length}
use Rattle.std.proofs.Common.{sym, ap, subst, ◌∙◌, inl, inr, arith}
use Rattle.std.proofs.Math.Option.{Option, none, some}
use Rattle.std.proofs.Math.Decide.{dec_le, dec_lt}
use Rattle.std.proofs.Math.IntN.{ℤ_discrete}
use Rattle.paper_expressions.specs.Limits.{integer_limit, real_limit}
use Rattle.paper_expressions.specs.Values.{Scalar, unknown, truth, integer, real, text, Value, one, sequence, TaskState, InLimit, InRealLimit, unit}
use Rattle.paper_expressions.specs.Values.{IsUnknown, is-unknown, IsTruth, is_truth, IsInteger, is_integer, IsReal, is_real, Number, integer_is, real_is, IsText, is_text, IsSequence, is_sequence, NonEmpty, BothIntegers, BothNumbers}
use Rattle.paper_expressions.specs.Types.{Ty, Text, Integer, Real, SetofText, SetofReal, SetofInteger, SetofAnything, TruthValue, Promotes, promotion_1, promotion_2, promotion_3a, promotion_3b, promotion_3c}
use Rattle.paper_expressions.specs.Types.{OfScalar, unknown_of_any, truth_of, integer-of, integer_counts_as_real, real_of, text_of, element_text, element_integer, element_real, EachOf, each_none, each_more, Of, of_scalar, of_list, of_empty}
use Rattle.paper_expressions.specs.Clauses.{Clause}
use Rattle.paper_expressions.specs.View.{View, Apart}
use Rattle.paper_expressions.specs.Operators.{◌⇒◌, allowed, Arithmetic, whole, decimal, arith_1a, arith_1b, arith_1c, arith_1d, arith_2, divide_1a, divide_1b, divide_1c, divide_2, quotient}
use Rattle.paper_expressions.specs.Operators.{Sign, +1, -1, ±0, ±?, Comp, Comparison, compared, and_1, and_2, or_1, or_2, element, Includes, includes_1, includes_2}
use Rattle.paper_expressions.specs.Operators.{if_1, if_2, if_3, negate_1a, negate_1b, negate_2, isknown_1, isknown_2, not_1, not_2, count_1, count_2, count_3}
use Rattle.paper_expressions.specs.Operators.{Integers, no_integer, an_integer, Numbers, no_number, a_number, Summable, summable, sum_1a, sum_1b, sum_1c, sum_1d, sum_2, sum_3}
use Rattle.paper_expressions.specs.Operators.{Extreme, Best, extremal_1, extremal_2, nth_1, nth_2, Resolved, by_text, by_unknown, InState, is_in_1, is_in_2, is_in_3}
use Rattle.paper_expressions.specs.Operators.{Op, arithmetic, divide, compare, and, or, includes, oneof, if, negate, isknown, not, count, sum, extreme, nth, is-in, no_such}
use Rattle.paper_expressions.specs.Operators.{F, F-arithmetic, F-divide, F-compare, F-and, F-or, F-includes, F-oneof, F-if, F-negate, F-isknown, F-not, F-count, F-sum, F-extreme, F-nth, F-is-in}
use Rattle.paper_expressions.specs.Expressions.{Among, here, there, Reaches, reaches_none, reaches_same, reaches_by}
use Rattle.paper_expressions.proofs.Laws.Search.{no_clash, Reflects, of_yes, of_no, reflects_dec, FirstOf, first_is, no_first, first_of, firstb}
use Rattle.paper_expressions.proofs.Laws.Resolve.{resolve_task_f, task_fits}
use Rattle.paper_expressions.proofs.Laws.Compare.{Compared, comp_numbers, comp_texts, unknown_left, unknown_right, unknown_no_number, comp_ends, comp_end_left, comp_end_right, comp_tails, comp_f}
use Rattle.paper_expressions.proofs.Laws.Only.{Such, such, such_reflects, such_zero, suchb, zerob, zero_reflects, bestb, best_reflects, unknown_reflects, as_numbers, inb, in_reflects}

-- ---- promotions are inclusions of values

promote_each : {l : List Scalar} → EachOf Integer l → EachOf Real l
promote_each each_none = each_none
promote_each (each_more unknown_of_any h) = each_more unknown_of_any (promote_each h)
promote_each (each_more integer-of h) = each_more integer_counts_as_real (promote_each h)

promote_scalar : {s : Scalar} {t u : Ty} → Promotes t u → OfScalar s t → OfScalar s u
promote_scalar p unknown_of_any = unknown_of_any
promote_scalar promotion_1 integer-of = integer_counts_as_real
promote_scalar {u = u} p (truth_of {b = b}) = elim p [ ]
promote_scalar {u = u} p (integer_counts_as_real {n = n}) = elim p [ ]
promote_scalar {u = u} p (real_of {n = n}) = elim p [ ]
promote_scalar {u = u} p (text_of {s = s}) = elim p [ ]

-- a value of a type is of every type that the type promotes to
pub promote : {v : Value} {t u : Ty} → Promotes t u → Of v t → Of v u
promote p (of_scalar h) = of_scalar (promote_scalar p h)
promote promotion_2 (of_list element_integer h) = of_list element_real (promote_each h)
promote promotion_3a of_empty = of_list element_text each_none
promote promotion_3b of_empty = of_list element_integer each_none
promote promotion_3c of_empty = of_list element_real each_none
promote promotion_1 (of_list {l = l} {e = e} x7 h) = elim x7 [ ]
promote promotion_3a (of_list {l = l} {e = e} x8 h) = elim x8 [ ]
promote promotion_3b (of_list {l = l} {e = e} x9 h) = elim x9 [ ]
promote promotion_3c (of_list {l = l} {e = e} x10 h) = elim x10 [ ]

-- ---- values of a list of types

pub data Fit : List Value → List Ty → Type 0 where
  none_fit : Fit [] []
  one_fits : {v : Value} {vs : List Value} {t : Ty} {ts : List Ty} → Of v t → Fit vs ts → Fit (v ∷ vs) (t ∷ ts)

pub fit_reaches : {vs : List Value} {ts us : List Ty} → Reaches ts us → Fit vs ts → Fit vs us
fit_reaches reaches_none none_fit = none_fit
fit_reaches (reaches_same r) (one_fits h f) = one_fits h (fit_reaches r f)
fit_reaches (reaches_by p r) (one_fits h f) = one_fits (promote p h) (fit_reaches r f)

-- ---- what a value of a type can be

pub data Numeric : Value → Type 0 where
  num_unknown : Numeric (one unknown)
  num_integer : {n : ℤ} → Numeric (one (integer n))
  num_real : {n : ℤ} → Numeric (one (real n))

numeric : {v : Value} → Of v Real → Numeric v
numeric (of_scalar unknown_of_any) = num_unknown
numeric (of_scalar integer_counts_as_real) = num_integer
numeric (of_scalar real_of) = num_real
numeric (of_list {l = l} {e = e} x5 _) = elim x5 [ ]

not_both : {v w : Value} → IsUnknown v ⊎ IsUnknown w → ¬ BothNumbers v w
not_both (inl h) b = unknown_no_number h b.2
not_both (inr h) b = unknown_no_number h b.3

-- unknown, or a number
number_of : {v : Value} → Of v Real → IsUnknown v ⊎ ((x : ℤ) × Number v x)
number_of (of_scalar unknown_of_any) = inl is-unknown
number_of (of_scalar (integer_counts_as_real {n})) = inr (n *ℤ unit, integer_is)
number_of (of_scalar (real_of {n})) = inr (n, real_is)
number_of (of_list {l = l} {e = e} x5 _) = elim x5 [ ]

text_of_type : {v : Value} → Of v Text → IsUnknown v ⊎ ((s : List ℕ) × IsText v s)
text_of_type (of_scalar unknown_of_any) = inl is-unknown
text_of_type (of_scalar (text_of {s})) = inr (s, is_text)
text_of_type (of_list {l = l} {e = e} x5 _) = elim x5 [ ]

-- ---- two values of a type compare

pub comp_reals : {v w : Value} → Of v Real → Of w Real → Compared v w
comp_reals {v} {w} h k = go (number_of h) (number_of k)
  where
    go : IsUnknown v ⊎ ((x : ℤ) × Number v x) → IsUnknown w ⊎ ((y : ℤ) × Number w y) → Compared v w
    go (inl u) n = unknown_left u
    go (inr m) (inl u) = unknown_right u
    go (inr m) (inr n) = comp_numbers m.1 n.1

pub comp_words : {v w : Value} → Of v Text → Of w Text → Compared v w
comp_words {v} {w} h k = go (text_of_type h) (text_of_type k)
  where
    go : IsUnknown v ⊎ ((s : List ℕ) × IsText v s) → IsUnknown w ⊎ ((t : List ℕ) × IsText w t) → Compared v w
    go (inl u) n = unknown_left u
    go (inr m) (inl u) = unknown_right u
    go (inr m) (inr n) = comp_texts m.1 n.1

-- two values of the type t always compare
abbrev pub Comparable : Ty → Type 0
Comparable t = (v w : Value) → Of v t → Of w t → Compared v w

comp_lists : (t : Ty) {l m : List Scalar} → Comparable t → EachOf t l → EachOf t m → Compared (sequence l) (sequence m)
comp_lists t f each_none each_none = comp_ends
comp_lists t f each_none (each_more h k) = comp_end_left
comp_lists t f (each_more h k) each_none = comp_end_right (λ u. elim u [ ]) (λ q. elim q [ ])
comp_lists t f (each_more h k) (each_more h' k') = comp_tails (f _ _ (of_scalar h) (of_scalar h')) (comp_lists t f k k')

pub comp_real_sets : {v w : Value} → Of v SetofReal → Of w SetofReal → Compared v w
comp_real_sets (of_scalar unknown_of_any) k = unknown_left is-unknown
comp_real_sets (of_list e h) (of_scalar unknown_of_any) = unknown_right is-unknown
comp_real_sets (of_list element_real h) (of_list element_real k) = comp_lists Real (λ v w. comp_reals) h k

pub comp_text_sets : {v w : Value} → Of v SetofText → Of w SetofText → Compared v w
comp_text_sets (of_scalar unknown_of_any) k = unknown_left is-unknown
comp_text_sets (of_list e h) (of_scalar unknown_of_any) = unknown_right is-unknown
comp_text_sets (of_list element_text h) (of_list element_text k) = comp_lists Text (λ v w. comp_words) h k

-- ---- smaller facts

is_true : (v : Value) → Dec (IsTruth v true)
is_true (one unknown) = no (λ h. elim h [ ])
is_true (one (truth true)) = yes is_truth
is_true (one (truth false)) = no (λ h. elim h [ ])
is_true (one (integer n)) = no (λ h. elim h [ ])
is_true (one (real n)) = no (λ h. elim h [ ])
is_true (one (text s)) = no (λ h. elim h [ ])
is_true (sequence l) = no (λ h. elim h [ ])

unknown_no_truth : {b : Bool} → ¬ IsTruth (one unknown) b
unknown_no_truth h = elim h [ ]

pub element-of : {t : Ty} {l : List Scalar} (i : ℕ) → EachOf t l → Of (element l i) t
element-of i each_none = of_scalar unknown_of_any
element-of zero (each_more h k) = of_scalar h
element-of (suc i) (each_more h k) = element-of i k

sequence_same : {l m : List Scalar} → IsSequence (sequence l) m → l ≡ m
sequence_same is_sequence = refl

one_no_sequence : {s : Scalar} {l : List Scalar} → ¬ IsSequence (one s) l
one_no_sequence h = elim h [ ]

one_not_non_empty : {s : Scalar} → ¬ NonEmpty (one s)
one_not_non_empty h = elim h [ ]

empty_not_non_empty : ¬ NonEmpty (sequence [])
empty_not_non_empty h = elim h [ ]

empty_not_summable : ¬ Summable (sequence [])
empty_not_summable h = elim h [ ]

one_not_summable : {s : Scalar} → ¬ Summable (one s)
one_not_summable h = elim h [ ]

not_summable : {l : List Scalar} → ((z : ℤ) → ¬ Numbers l z) → ¬ Summable (sequence l)
not_summable n (summable {z} h) = n z h

no_sum_not_empty : {l : List Scalar} → ((z : ℤ) → ¬ Numbers l z) → ¬ IsSequence (sequence l) []
no_sum_not_empty n is_sequence = n (pos 0) no_number

unknown_no_integer : {x : ℤ} → ¬ IsInteger (one unknown) x
unknown_no_integer h = elim h [ ]

integer_same : {n m : ℤ} → IsInteger (one (integer n)) m → n ≡ m
integer_same is_integer = refl

false_not_true : ¬ IsTruth (one (truth false)) true
false_not_true h = elim h [ ]

true_not_false : ¬ IsTruth (one (truth true)) false
true_not_false h = elim h [ ]

pub data Tally (l : List Scalar) : Type 0 where
  all_integers : {z : ℤ} → Integers l z → Tally l
  all_numbers : {z : ℤ} → Numbers l z → ((x : ℤ) → ¬ Integers l x) → Tally l
  some_unknown : ((z : ℤ) → ¬ Numbers l z) → Tally l

rest_numbers : {s : Scalar} {l : List Scalar} {z : ℤ} → Numbers (s ∷ l) z → (x : ℤ) × Numbers l x
rest_numbers (a_number {z} n h) = (z, h)

rest_integers : {s : Scalar} {l : List Scalar} {z : ℤ} → Integers (s ∷ l) z → (x : ℤ) × Integers l x
rest_integers (an_integer {z} h) = (z, h)

unknown_first : {l : List Scalar} {z : ℤ} → ¬ Numbers (unknown ∷ l) z
unknown_first (a_number n h) = unknown_no_number is-unknown n

real_first : {n : ℤ} {l : List Scalar} {z : ℤ} → ¬ Integers (real n ∷ l) z
real_first h = elim h [ ]

tally_integer : {n : ℤ} {l : List Scalar} → Tally l → Tally (integer n ∷ l)
tally_integer (all_integers h) = all_integers (an_integer h)
tally_integer (all_numbers h m) = all_numbers (a_number integer_is h) (λ x k. let r = rest_integers k in m r.0 r.1)
tally_integer (some_unknown m) = some_unknown (λ x k. let r = rest_numbers k in m r.0 r.1)

tally_real : {n : ℤ} {l : List Scalar} → Tally l → Tally (real n ∷ l)
tally_real (all_integers h) = all_numbers (a_number real_is (as_numbers h).1) (λ x. real_first)
tally_real (all_numbers h m) = all_numbers (a_number real_is h) (λ x. real_first)
tally_real (some_unknown m) = some_unknown (λ x k. let r = rest_numbers k in m r.0 r.1)

tally : {l : List Scalar} → EachOf Real l → Tally l
tally each_none = all_integers no_integer
tally (each_more unknown_of_any h) = some_unknown (λ z. unknown_first)
tally (each_more integer_counts_as_real h) = tally_integer (tally h)
tally (each_more real_of h) = tally_real (tally h)

whole_more : {n : ℤ} {l : List Scalar} → ((z : ℤ) × Integers l z) ⊎ ((z : ℤ) → ¬ Numbers l z) → ((z : ℤ) × Integers (integer n ∷ l) z) ⊎ ((z : ℤ) → ¬ Numbers (integer n ∷ l) z)
whole_more {n} (inl k) = inl (n +ℤ k.0, an_integer k.1)
whole_more (inr m) = inr (λ x k. let r = rest_numbers k in m r.0 r.1)

whole_tally : {l : List Scalar} → EachOf Integer l → ((z : ℤ) × Integers l z) ⊎ ((z : ℤ) → ¬ Numbers l z)
whole_tally each_none = inl (pos 0, no_integer)
whole_tally (each_more unknown_of_any h) = inr (λ z. unknown_first)
whole_tally (each_more (integer-of {n}) h) = whole_more (whole_tally h)

module _ (τ : View) (T : ℕ) where
  pub record Finds (o : Op) (vs : List Value) (t : Ty) : Type 0 where
    pub clause : Clause
    pub value : Value
    pub fits : F τ T o vs clause value
    pub typed : Of value t

  it_finds : {o : Op} {vs : List Value} {t : Ty} {c : Clause} {r : Value} → F τ T o vs c r → Of r t → Finds o vs t
  it_finds h k = record { clause = _; value = _; fits = h; typed = k }

  unknown_found : {o : Op} {vs : List Value} {t : Ty} {c : Clause} → F τ T o vs c (one unknown) → Finds o vs t
  unknown_found h = it_finds h (of_scalar unknown_of_any)

  truth_found : {o : Op} {vs : List Value} {c : Clause} {b : Bool} → F τ T o vs c (one (truth b)) → Finds o vs TruthValue
  truth_found h = it_finds h (of_scalar truth_of)

  -- ---- arithmetic

  arith_unknown : {o : Arithmetic} {v w : Value} {t : Ty} → IsUnknown v ⊎ IsUnknown w → Finds (arithmetic o) (v ∷ w ∷ []) t
  arith_unknown h = unknown_found (F-arithmetic (arith_2 (not_both h) h))

  arith_integers : (o : Arithmetic) (x y : ℤ) {t : Ty} → Of (one (integer (whole o x y))) t → Finds (arithmetic o) (one (integer x) ∷ one (integer y) ∷ []) t
  arith_integers o x y {t} q = go (dec_le (nat_abs (whole o x y)) integer_limit)
    where
      go : Dec (InLimit (whole o x y)) → Finds (arithmetic o) (one (integer x) ∷ one (integer y) ∷ []) t
      go (yes h) = it_finds (F-arithmetic (arith_1a is_integer is_integer h)) (q)
      go (no h) = unknown_found (F-arithmetic (arith_1b is_integer is_integer h))

  arith_reals : {o : Arithmetic} {v w : Value} {x y : ℤ} → Number v x → Number w y → ¬ BothIntegers v w → Finds (arithmetic o) (v ∷ w ∷ []) Real
  arith_reals {o} {v} {w} {x} {y} h k n = go (dec_le (nat_abs (decimal o x y)) real_limit)
    where
      go : Dec (InRealLimit (decimal o x y)) → Finds (arithmetic o) (v ∷ w ∷ []) Real
      go (yes i) = it_finds (F-arithmetic (arith_1c h k n i)) (of_scalar real_of)
      go (no i) = unknown_found (F-arithmetic (arith_1d h k n i))

  arith_numeric : (o : Arithmetic) {v w : Value} → Numeric v → Numeric w → Finds (arithmetic o) (v ∷ w ∷ []) Real
  arith_numeric o num_unknown k = arith_unknown (inl is-unknown)
  arith_numeric o num_integer num_unknown = arith_unknown (inr is-unknown)
  arith_numeric o (num_integer {n}) (num_integer {n = m}) = arith_integers o n m (of_scalar integer_counts_as_real)
  arith_numeric o num_integer num_real = arith_reals integer_is real_is (λ b. elim b.3 [ ])
  arith_numeric o num_real num_unknown = arith_unknown (inr is-unknown)
  arith_numeric o num_real num_integer = arith_reals real_is integer_is (λ b. elim b.2 [ ])
  arith_numeric o num_real num_real = arith_reals real_is real_is (λ b. elim b.2 [ ])

  arith_finds : (o : Arithmetic) {us : List Ty} {t : Ty} {vs : List Value} → Among (us ⇒ t) (allowed (arithmetic o)) → Fit vs us → Finds (arithmetic o) vs t
  arith_finds o here (one_fits (of_scalar unknown_of_any) (one_fits k none_fit)) = arith_unknown (inl is-unknown)
  arith_finds o here (one_fits (of_scalar integer-of) (one_fits (of_scalar unknown_of_any) none_fit)) = arith_unknown (inr is-unknown)
  arith_finds o here (one_fits (of_scalar (integer-of {n})) (one_fits (of_scalar (integer-of {n = m})) none_fit)) = arith_integers o n m (of_scalar integer-of)
  arith_finds o (there here) (one_fits h (one_fits k none_fit)) = arith_numeric o (numeric h) (numeric k)
  arith_finds o here (one_fits (of_scalar (integer-of {n = n})) (one_fits {vs = vs} (of_list {l = l} {e = e} x40 _) _)) = elim x40 [ ]
  arith_finds o here (one_fits {vs = vs} (of_list {l = l} {e = e} x24 _) _) = elim x24 [ ]
  arith_finds o {us = us} {t = t} {vs = vs} (there (there x19)) _ = elim x19 [ ]

  -- ---- divide

  divide_unknown : {v w : Value} → IsUnknown v ⊎ IsUnknown w → Finds divide (v ∷ w ∷ []) Real
  divide_unknown h = unknown_found (F-divide (divide_2 (not_both h) h))

  divide_numbers : {v w : Value} {x y : ℤ} → Number v x → Number w y → Finds divide (v ∷ w ∷ []) Real
  divide_numbers {v} {w} {x} {y} h k = go (ℤ_discrete y (pos 0)) (dec_le (nat_abs (quotient x y)) real_limit)
    where
      go : Dec (y ≡ pos 0) → Dec (InRealLimit (quotient x y)) → Finds divide (v ∷ w ∷ []) Real
      go (yes z) d = unknown_found (F-divide (divide_1c h k z))
      go (no z) (yes i) = it_finds (F-divide (divide_1a h k z i)) (of_scalar real_of)
      go (no z) (no i) = unknown_found (F-divide (divide_1b h k z i))

  divide_finds : {us : List Ty} {t : Ty} {vs : List Value} → Among (us ⇒ t) (allowed divide) → Fit vs us → Finds divide vs t
  divide_finds here (one_fits {v} h (one_fits {v = w} k none_fit)) = go (number_of h) (number_of k)
    where
      go : IsUnknown v ⊎ ((x : ℤ) × Number v x) → IsUnknown w ⊎ ((y : ℤ) × Number w y) → Finds divide (v ∷ w ∷ []) Real
      go (inl u) n = divide_unknown (inl u)
      go (inr m) (inl u) = divide_unknown (inr u)
      go (inr m) (inr n) = divide_numbers m.1 n.1
  divide_finds {us = us} {t = t} {vs = vs} (there x9) _ = elim x9 [ ]

  -- ---- comparison

  compare_with : {v w : Value} (o : Comparison) → Compared v w → Finds (compare o) (v ∷ w ∷ []) TruthValue
  compare_with o h = truth_found (F-compare (compared h.fits))

  compare_finds : (o : Comparison) {us : List Ty} {t : Ty} {vs : List Value} → Among (us ⇒ t) (allowed (compare o)) → Fit vs us → Finds (compare o) vs t
  compare_finds o here (one_fits h (one_fits k none_fit)) = compare_with o (comp_reals h k)
  compare_finds o (there here) (one_fits h (one_fits k none_fit)) = compare_with o (comp_words h k)
  compare_finds o (there (there here)) (one_fits h (one_fits k none_fit)) = compare_with o (comp_real_sets h k)
  compare_finds o (there (there (there here))) (one_fits h (one_fits k none_fit)) = compare_with o (comp_text_sets h k)
  compare_finds o {us = us} {t = t} {vs = vs} (there (there (there (there x36)))) _ = elim x36 [ ]

  -- ---- and, if, isknown

  and_any : (v w : Value) → Finds and (v ∷ w ∷ []) TruthValue
  and_any v w = go (is_true v) (is_true w)
    where
      go : Dec (IsTruth v true) → Dec (IsTruth w true) → Finds and (v ∷ w ∷ []) TruthValue
      go (yes h) (yes k) = truth_found (F-and (and_1 h k))
      go (yes h) (no k) = truth_found (F-and (and_2 (λ b. k b.1)))
      go (no h) k = truth_found (F-and (and_2 (λ b. h b.0)))

  and_finds : {us : List Ty} {t : Ty} {vs : List Value} → Among (us ⇒ t) (allowed and) → Fit vs us → Finds and vs t
  and_finds here (one_fits {v} h (one_fits {v = w} k none_fit)) = and_any v w
  and_finds {us = us} {t = t} {vs = vs} (there x9) _ = elim x9 [ ]

  if_any : {u v w : Value} {t : Ty} → Of u TruthValue → Of v t → Of w t → Finds if (u ∷ v ∷ w ∷ []) t
  if_any (of_scalar unknown_of_any) h k = unknown_found (F-if (if_3 unknown_no_truth unknown_no_truth))
  if_any {v} {w} {t} (of_scalar (truth_of {b})) h k = go b
    where
      go : (b : Bool) → Finds if (one (truth b) ∷ v ∷ w ∷ []) t
      go true = it_finds (F-if (if_1 is_truth)) (h)
      go false = it_finds (F-if (if_2 false_not_true is_truth)) (k)
  if_any {v = v} {w = w} {t = t} (of_list {l = l} {e = e} x7 _) h k = elim x7 [ ]

  if_finds : {us : List Ty} {t : Ty} {vs : List Value} → Among (us ⇒ t) (allowed if) → Fit vs us → Finds if vs t
  if_finds here (one_fits g (one_fits h (one_fits k none_fit))) = if_any g h k
  if_finds (there here) (one_fits g (one_fits h (one_fits k none_fit))) = if_any g h k
  if_finds (there (there here)) (one_fits g (one_fits h (one_fits k none_fit))) = if_any g h k
  if_finds (there (there (there here))) (one_fits g (one_fits h (one_fits k none_fit))) = if_any g h k
  if_finds (there (there (there (there here)))) (one_fits g (one_fits h (one_fits k none_fit))) = if_any g h k
  if_finds (there (there (there (there (there here))))) (one_fits g (one_fits h (one_fits k none_fit))) = if_any g h k
  if_finds (there (there (there (there (there (there here)))))) (one_fits g (one_fits h (one_fits k none_fit))) = if_any g h k
  if_finds {us = us} {t = t} {vs = vs} (there (there (there (there (there (there (there x63))))))) _ = elim x63 [ ]

  isknown_any : (v : Value) → Finds isknown (v ∷ []) TruthValue
  isknown_any v = go (reflects_dec (unknown_reflects v))
    where
      go : Dec (IsUnknown v) → Finds isknown (v ∷ []) TruthValue
      go (yes h) = truth_found (F-isknown (isknown_1 h))
      go (no h) = truth_found (F-isknown (isknown_2 h))

  isknown_finds : {us : List Ty} {t : Ty} {vs : List Value} → Among (us ⇒ t) (allowed isknown) → Fit vs us → Finds isknown vs t
  isknown_finds here (one_fits {v} h none_fit) = isknown_any v
  isknown_finds (there here) (one_fits {v} h none_fit) = isknown_any v
  isknown_finds (there (there here)) (one_fits {v} h none_fit) = isknown_any v
  isknown_finds (there (there (there here))) (one_fits {v} h none_fit) = isknown_any v
  isknown_finds (there (there (there (there here)))) (one_fits {v} h none_fit) = isknown_any v
  isknown_finds {us = us} {t = t} {vs = vs} (there (there (there (there (there x45))))) _ = elim x45 [ ]

  -- ---- max and min

  extreme_list : {e : Extreme} {t : Ty} {l : List Scalar} → EachOf t l → Finds (extreme e) (sequence l ∷ []) t
  extreme_list {e} {t} {l} h = go (firstb (length l) (bestb e l)) (first_of (Best e l) (bestb e l) (best_reflects e l) (length l))
    where
      none_best : ((i : ℕ) → i < length l → ¬ Best e l i) → (m : List Scalar) (i : ℕ) → IsSequence (sequence l) m → ¬ Best e m i
      none_best n m i is_sequence k = n i k.inside k

      go : (o : Option ℕ) → FirstOf (Best e l) (length l) o → Finds (extreme e) (sequence l ∷ []) t
      go o (first_is {i} b m n) = it_finds (F-extreme (extremal_1 is_sequence m n)) (element-of i h)
      go o (no_first n) = unknown_found (F-extreme (extremal_2 (none_best n)))

  extreme_unknown : {e : Extreme} {t : Ty} → Finds (extreme e) (one unknown ∷ []) t
  extreme_unknown = unknown_found (F-extreme (extremal_2 (λ l i s m. one_no_sequence s)))

  extreme_finds : (e : Extreme) {us : List Ty} {t : Ty} {vs : List Value} → Among (us ⇒ t) (allowed (extreme e)) → Fit vs us → Finds (extreme e) vs t
  extreme_finds e here (one_fits (of_scalar unknown_of_any) none_fit) = extreme_unknown
  extreme_finds e here (one_fits (of_list element_integer h) none_fit) = extreme_list h
  extreme_finds e (there here) (one_fits (of_scalar unknown_of_any) none_fit) = extreme_unknown
  extreme_finds e (there here) (one_fits (of_list element_real h) none_fit) = extreme_list h
  extreme_finds e (there (there here)) (one_fits (of_scalar unknown_of_any) none_fit) = extreme_unknown
  extreme_finds e (there (there here)) (one_fits (of_list element_text h) none_fit) = extreme_list h
  extreme_finds e {us = us} {t = t} {vs = vs} (there (there (there x27))) _ = elim x27 [ ]

  -- ---- nth

  nth_none : {v w : Value} {t : Ty} → ((l : List Scalar) (i : ℕ) → IsSequence w l → IsInteger v (pos (suc i)) → ¬ (i < length l)) → Finds nth (v ∷ w ∷ []) t
  nth_none h = unknown_found (F-nth (nth_2 h))

  nth_list : {t : Ty} {l : List Scalar} (n : ℤ) → EachOf t l → Finds nth (one (integer n) ∷ sequence l ∷ []) t
  nth_list (pos zero) h = nth_none (λ l i s k. let e = integer_same k in absurd (no_clash (cc)))
  nth_list {t} {l} (pos (suc i)) h = go (dec_lt i (length l))
    where
      go : Dec (i < length l) → Finds nth (one (integer (pos (suc i))) ∷ sequence l ∷ []) t
      go (yes b) = it_finds (F-nth (nth_1 is_sequence is_integer b)) (element-of i h)
      go (no b) = nth_none (λ l' i' s k c. let e : suc i ≡ suc i' = (let q = integer_same k in cc) in let d = ap {B = ℕ} length (sequence_same s) in b (omega arith))
  nth_list (negsuc n) h = nth_none (λ l i s k. let e = integer_same k in absurd (no_clash (cc)))

  nth_any : {v : Value} {t : Ty} {l : List Scalar} → Of v Integer → EachOf t l → Finds nth (v ∷ sequence l ∷ []) t
  nth_any (of_scalar unknown_of_any) k = nth_none (λ l i s h. absurd (unknown_no_integer h))
  nth_any (of_scalar (integer-of {n})) k = nth_list n k
  nth_any {t = t} (of_list {l = l} {e = e} x6 _) k = elim x6 [ ]

  nth_unknown : {v : Value} {t : Ty} → Finds nth (v ∷ one unknown ∷ []) t
  nth_unknown = nth_none (λ l i s h. absurd (one_no_sequence s))

  nth_finds : {us : List Ty} {t : Ty} {vs : List Value} → Among (us ⇒ t) (allowed nth) → Fit vs us → Finds nth vs t
  nth_finds here (one_fits h (one_fits (of_scalar unknown_of_any) none_fit)) = nth_unknown
  nth_finds here (one_fits h (one_fits (of_list element_integer k) none_fit)) = nth_any h k
  nth_finds (there here) (one_fits h (one_fits (of_scalar unknown_of_any) none_fit)) = nth_unknown
  nth_finds (there here) (one_fits h (one_fits (of_list element_real k) none_fit)) = nth_any h k
  nth_finds (there (there here)) (one_fits h (one_fits (of_scalar unknown_of_any) none_fit)) = nth_unknown
  nth_finds (there (there here)) (one_fits h (one_fits (of_list element_text k) none_fit)) = nth_any h k
  nth_finds {us = us} {t = t} {vs = vs} (there (there (there x27))) _ = elim x27 [ ]

  -- ---- the others

  or_any : (v w : Value) → Finds or (v ∷ w ∷ []) TruthValue
  or_any v w = go (is_true v) (is_true w)
    where
      refuse : ¬ IsTruth v true → ¬ IsTruth w true → ¬ (IsTruth v true ⊎ IsTruth w true)
      refuse n m (inl h) = n h
      refuse n m (inr h) = m h

      go : Dec (IsTruth v true) → Dec (IsTruth w true) → Finds or (v ∷ w ∷ []) TruthValue
      go (yes h) k = truth_found (F-or (or_1 (inl h)))
      go (no h) (yes k) = truth_found (F-or (or_1 (inr k)))
      go (no h) (no k) = truth_found (F-or (or_2 (refuse h k)))

  or_finds : {us : List Ty} {t : Ty} {vs : List Value} → Among (us ⇒ t) (allowed or) → Fit vs us → Finds or vs t
  or_finds here (one_fits {v} h (one_fits {v = w} k none_fit)) = or_any v w
  or_finds {us = us} {t = t} {vs = vs} (there x9) _ = elim x9 [ ]

  -- either clause of includes
  pub record Included (v w : Value) : Type 0 where
    pub clause : Clause
    pub value : Bool
    pub fits : Includes v w clause (one (truth value))

  included : (v w : Value) → Included v w
  included (one s) w = record { clause = _; value = false; fits = includes_2 (λ l j c q b k. one_no_sequence q) }
  included (sequence l) w = go _ (first_of Equal test (λ j. such_reflects (λ (s : Sign). s ≡ ±0) zerob zero_reflects (get_or l j unknown) w) (length l))
    where
      Equal : ℕ → Type 0
      Equal j = Such (λ s. s ≡ ±0) (element l j) w

      test : ℕ → Bool
      test j = suchb zerob (comp_f (element l j) w)

      none_equal : ((i : ℕ) → i < length l → ¬ Equal i) → (m : List Scalar) (j : ℕ) (c : Clause) → IsSequence (sequence l) m → j < length m → ¬ Comp (element m j) w c ±0
      none_equal n m j c is_sequence b q = n j b (such q refl)

      go : (o : Option ℕ) → FirstOf Equal (length l) o → Included (sequence l) w
      go o (first_is b e n) = record { clause = _; value = true; fits = includes_1 is_sequence b (such_zero e).1 }
      go o (no_first n) = record { clause = _; value = false; fits = includes_2 (none_equal n) }

  includes_finds : {us : List Ty} {t : Ty} {vs : List Value} → Among (us ⇒ t) (allowed includes) → Fit vs us → Finds includes vs t
  includes_finds here (one_fits {v} h (one_fits {v = w} k none_fit)) = truth_found (F-includes (included v w).fits)
  includes_finds (there here) (one_fits {v} h (one_fits {v = w} k none_fit)) = truth_found (F-includes (included v w).fits)
  includes_finds {us = us} {t = t} {vs = vs} (there (there x18)) _ = elim x18 [ ]

  oneof_finds : {us : List Ty} {t : Ty} {vs : List Value} → Among (us ⇒ t) (allowed oneof) → Fit vs us → Finds oneof vs t
  oneof_finds here (one_fits {v} h (one_fits {v = w} k none_fit)) = truth_found (F-oneof (included w v).fits)
  oneof_finds (there here) (one_fits {v} h (one_fits {v = w} k none_fit)) = truth_found (F-oneof (included w v).fits)
  oneof_finds {us = us} {t = t} {vs = vs} (there (there x18)) _ = elim x18 [ ]

  negate_finds : {us : List Ty} {t : Ty} {vs : List Value} → Among (us ⇒ t) (allowed negate) → Fit vs us → Finds negate vs t
  negate_finds here (one_fits (of_scalar unknown_of_any) none_fit) = unknown_found (F-negate (negate_2 (λ x. unknown_no_number is-unknown) is-unknown))
  negate_finds here (one_fits (of_scalar integer-of) none_fit) = it_finds (F-negate (negate_1a is_integer)) (of_scalar integer-of)
  negate_finds (there here) (one_fits (of_scalar unknown_of_any) none_fit) = unknown_found (F-negate (negate_2 (λ x. unknown_no_number is-unknown) is-unknown))
  negate_finds (there here) (one_fits (of_scalar integer_counts_as_real) none_fit) = it_finds (F-negate (negate_1a is_integer)) (of_scalar integer_counts_as_real)
  negate_finds (there here) (one_fits (of_scalar real_of) none_fit) = it_finds (F-negate (negate_1b is_real)) (of_scalar real_of)
  negate_finds here (one_fits {vs = vs} (of_list {l = l} {e = e} x23 _) _) = elim x23 [ ]
  negate_finds (there here) (one_fits {vs = vs} (of_list {l = l} {e = e} x33 _) _) = elim x33 [ ]
  negate_finds {us = us} {t = t} {vs = vs} (there (there x20)) _ = elim x20 [ ]

  not_any : {v : Value} → Of v TruthValue → Finds not (v ∷ []) TruthValue
  not_any (of_scalar unknown_of_any) = truth_found (F-not (not_2 unknown_no_truth))
  not_any (of_scalar (truth_of {b})) = go b
    where
      go : (b : Bool) → Finds not (one (truth b) ∷ []) TruthValue
      go true = truth_found (F-not (not_2 true_not_false))
      go false = truth_found (F-not (not_1 is_truth))
  not_any (of_list {l = l} {e = e} x5 _) = elim x5 [ ]

  not_finds : {us : List Ty} {t : Ty} {vs : List Value} → Among (us ⇒ t) (allowed not) → Fit vs us → Finds not vs t
  not_finds here (one_fits h none_fit) = not_any h
  not_finds {us = us} {t = t} {vs = vs} (there x9) _ = elim x9 [ ]

  count_list : (l : List Scalar) → Finds count (sequence l ∷ []) Integer
  count_list [] = it_finds (F-count (count_2 empty_not_non_empty is_sequence)) (of_scalar integer-of)
  count_list (s ∷ l) = it_finds (F-count (count_1 is_sequence)) (of_scalar integer-of)

  count_unknown : Finds count (one unknown ∷ []) Integer
  count_unknown = unknown_found (F-count (count_3 one_not_non_empty one_no_sequence))

  count_finds : {us : List Ty} {t : Ty} {vs : List Value} → Among (us ⇒ t) (allowed count) → Fit vs us → Finds count vs t
  count_finds here (one_fits (of_scalar unknown_of_any) none_fit) = count_unknown
  count_finds here (one_fits (of_list {l} e h) none_fit) = count_list l
  count_finds (there here) (one_fits (of_scalar unknown_of_any) none_fit) = count_unknown
  count_finds (there here) (one_fits (of_list {l} e h) none_fit) = count_list l
  count_finds {us = us} {t = t} {vs = vs} (there (there x18)) _ = elim x18 [ ]

  sum_integers : (l : List Scalar) {t : Ty} {z : ℤ} → ((n : ℤ) → Of (one (integer n)) t) → Integers l z → Finds sum (sequence l ∷ []) t
  sum_integers [] {t} q h = it_finds (F-sum (sum_2 empty_not_summable is_sequence)) (q (pos 0))
  sum_integers (s ∷ l) {t} {z} q h = go (dec_le (nat_abs z) integer_limit)
    where
      go : Dec (InLimit z) → Finds sum (sequence (s ∷ l) ∷ []) t
      go (yes k) = it_finds (F-sum (sum_1a is_sequence h k)) (q z)
      go (no k) = unknown_found (F-sum (sum_1b is_sequence h k))

  sum_reals : (l : List Scalar) {z : ℤ} → Numbers l z → ((x : ℤ) → ¬ Integers l x) → Finds sum (sequence l ∷ []) Real
  sum_reals [] h n = absurd (n (pos 0) no_integer)
  sum_reals (s ∷ l) {z} h n = go (dec_le (nat_abs z) real_limit)
    where
      go : Dec (InRealLimit z) → Finds sum (sequence (s ∷ l) ∷ []) Real
      go (yes k) = it_finds (F-sum (sum_1c is_sequence h n k)) (of_scalar real_of)
      go (no k) = unknown_found (F-sum (sum_1d is_sequence h n k))

  sum_none : {l : List Scalar} {t : Ty} → ((z : ℤ) → ¬ Numbers l z) → Finds sum (sequence l ∷ []) t
  sum_none n = unknown_found (F-sum (sum_3 (not_summable n) (no_sum_not_empty n)))

  sum_unknown : {t : Ty} → Finds sum (one unknown ∷ []) t
  sum_unknown = unknown_found (F-sum (sum_3 one_not_summable one_no_sequence))

  sum_tally : {l : List Scalar} → Tally l → Finds sum (sequence l ∷ []) Real
  sum_tally {l} (all_integers h) = sum_integers l (λ n. of_scalar integer_counts_as_real) h
  sum_tally {l} (all_numbers h n) = sum_reals l h n
  sum_tally (some_unknown n) = sum_none n

  sum_whole : {l : List Scalar} → EachOf Integer l → Finds sum (sequence l ∷ []) Integer
  sum_whole {l} h = go (whole_tally h)
    where
      go : ((z : ℤ) × Integers l z) ⊎ ((z : ℤ) → ¬ Numbers l z) → Finds sum (sequence l ∷ []) Integer
      go (inl k) = sum_integers l (λ n. of_scalar integer-of) k.1
      go (inr n) = sum_none n

  sum_finds : {us : List Ty} {t : Ty} {vs : List Value} → Among (us ⇒ t) (allowed sum) → Fit vs us → Finds sum vs t
  sum_finds here (one_fits (of_scalar unknown_of_any) none_fit) = sum_unknown
  sum_finds here (one_fits (of_list element_integer h) none_fit) = sum_whole h
  sum_finds (there here) (one_fits (of_scalar unknown_of_any) none_fit) = sum_unknown
  sum_finds (there here) (one_fits (of_list element_real h) none_fit) = sum_tally (tally h)
  sum_finds {us = us} {t = t} {vs = vs} (there (there x18)) _ = elim x18 [ ]

  is_in_resolved : (s : TaskState) {v : Value} (c : Option ℕ) → Resolved τ T v c → Finds (is-in s) (v ∷ []) TruthValue
  is_in_resolved s none h = unknown_found (F-is-in (is_in_1 h))
  is_in_resolved s {v} (some c) h = go (inb τ T s c) (in_reflects τ T c s)
    where
      go : (b : Bool) → Reflects (InState τ c s) b → Finds (is-in s) (v ∷ []) TruthValue
      go b (of_yes e) = truth_found (F-is-in (is_in_2 h e))
      go b (of_no n) = truth_found (F-is-in (is_in_3 h n))

  is_in_finds : Apart τ → (s : TaskState) {us : List Ty} {t : Ty} {vs : List Value} → Among (us ⇒ t) (allowed (is-in s)) → Fit vs us → Finds (is-in s) vs t
  is_in_finds apart s here (one_fits (of_scalar unknown_of_any) none_fit) = is_in_resolved s none by_unknown
  is_in_finds apart s here (one_fits (of_scalar (text_of {s = a})) none_fit) = is_in_resolved s (resolve_task_f τ T a) (by_text (task_fits τ T a apart))
  is_in_finds apart s here (one_fits {vs = vs} (of_list {l = l} {e = e} x23 _) _) = elim x23 [ ]
  is_in_finds apart s {us = us} {t = t} {vs = vs} (there x10) _ = elim x10 [ ]

  -- ---- every operator

  pub finds : Apart τ → (o : Op) {us : List Ty} {t : Ty} {vs : List Value} → Among (us ⇒ t) (allowed o) → Fit vs us → Finds o vs t
  finds apart (arithmetic o) a h = arith_finds o a h
  finds apart divide a h = divide_finds a h
  finds apart (compare o) a h = compare_finds o a h
  finds apart and a h = and_finds a h
  finds apart or a h = or_finds a h
  finds apart includes a h = includes_finds a h
  finds apart oneof a h = oneof_finds a h
  finds apart if a h = if_finds a h
  finds apart negate a h = negate_finds a h
  finds apart isknown a h = isknown_finds a h
  finds apart not a h = not_finds a h
  finds apart count a h = count_finds a h
  finds apart sum a h = sum_finds a h
  finds apart (extreme e) a h = extreme_finds e a h
  finds apart nth a h = nth_finds a h
  finds apart (is-in s) a h = is_in_finds apart s a h
  finds apart (no_such n) a h = elim a [ ]
