-- Law: no value passes a limit, where the literals and the items' values don't. By induction on the evaluation.
use Rattle.std.specs.Prelude.{◌≡◌, refl, Bool, List, [], ◌∷◌, ℕ, zero, suc, ◌≤◌, ℤ, pos, negsuc, neg_ℤ, nat_abs, get_or, length}
use Rattle.std.proofs.Common.{ap, arith}
use Rattle.paper_expressions.specs.Limits.{integer_limit}
use Rattle.paper_expressions.specs.Values.{Scalar, unknown, truth, integer, real, text, Value, one, sequence, TaskState, is_integer, is_real, is_sequence}
use Rattle.paper_expressions.specs.Clauses.{Clause}
use Rattle.paper_expressions.specs.View.{View}
use Rattle.paper_expressions.specs.Operators.{Arithmetic, Arith, arith_1a, arith_1b, arith_1c, arith_1d, arith_2, Divide, divide_1a, divide_1b, divide_1c, divide_2, compared, And, and_1, and_2, Or, or_1, or_2, Includes, includes_1, includes_2}
use Rattle.paper_expressions.specs.Operators.{If, if_1, if_2, if_3, Negate, negate_1a, negate_1b, negate_2, IsKnown, isknown_1, isknown_2, Not, not_1, not_2, Count, count_1, count_2, count_3, Sum, sum_1a, sum_1b, sum_1c, sum_1d, sum_2, sum_3}
use Rattle.paper_expressions.specs.Operators.{Extreme, Extremal, extremal_1, extremal_2, Nth, nth_1, nth_2, IsIn, is_in_1, is_in_2, is_in_3, Op}
use Rattle.paper_expressions.specs.Operators.{F, F-arithmetic, F-divide, F-compare, F-and, F-or, F-includes, F-oneof, F-if, F-negate, F-isknown, F-not, F-count, F-sum, F-extreme, F-nth, F-is-in}
use Rattle.paper_expressions.specs.Expressions.{Expr, Exprs}
use Rattle.paper_expressions.specs.Evaluation.{EvaluateData, data_2, data_3, Elements, elements_none, elements_more, Evaluates, atom_data, atom_text, number_integer, number_float, string, parentheses, infix_form, functor_form, listing, Values, values_none, values_more}
pub use Rattle.paper_expressions.specs.Within.{Small, unknown_small, truth_small, integer_small, real_small, text_small, EachSmall, none_small, more_small, Limited, one_limited, list_limited, size, Modest, atom_modest, integer_modest, float_modest, string_modest, paren_modest, listing_modest, apply_modest, AllModest, none_modest, more_modest, Held}

-- ---- proofs

pub data EachLimited : List Value → Type 0 where
  none_limited : EachLimited []
  more_limited : {v : Value} {vs : List Value} → Limited v → EachLimited vs → EachLimited (v ∷ vs)

element_small : {l : List Scalar} (i : ℕ) → EachSmall l → Small (get_or l i unknown)
element_small i none_small = unknown_small
element_small zero (more_small h k) = h
element_small (suc i) (more_small h k) = element_small i k

neg_abs : (z : ℤ) → nat_abs (neg_ℤ z) ≡ nat_abs z
neg_abs (pos zero) = refl
neg_abs (pos (suc n)) = refl
neg_abs (negsuc n) = refl

nothing_known : Limited (one unknown)
nothing_known = one_limited unknown_small

zero_limited : Limited (one (integer (pos 0)))
zero_limited = one_limited (integer_small {n = pos 0} (let z : 0 ≤ integer_limit = omega arith in z))

a_truth : {b : Bool} → Limited (one (truth b))
a_truth = one_limited truth_small

arith_limited : {r : Value} {c : Clause} {o : Arithmetic} {v w : Value} → Arith o v w c r → Limited r
arith_limited (arith_1a h k i) = one_limited (integer_small i)
arith_limited (arith_1b h k i) = nothing_known
arith_limited (arith_1c h k b i) = one_limited (real_small i)
arith_limited (arith_1d h k b i) = nothing_known
arith_limited (arith_2 b h) = nothing_known

divide_limited : {r : Value} {c : Clause} {v w : Value} → Divide v w c r → Limited r
divide_limited (divide_1a h k z i) = one_limited (real_small i)
divide_limited (divide_1b h k z i) = nothing_known
divide_limited (divide_1c h k z) = nothing_known
divide_limited (divide_2 b h) = nothing_known

and_limited : {r : Value} {c : Clause} {v w : Value} → And v w c r → Limited r
and_limited (and_1 h k) = a_truth
and_limited (and_2 n) = a_truth

or_limited : {r : Value} {c : Clause} {v w : Value} → Or v w c r → Limited r
or_limited (or_1 h) = a_truth
or_limited (or_2 n) = a_truth

includes_limited : {r : Value} {c : Clause} {v w : Value} → Includes v w c r → Limited r
includes_limited (includes_1 h b k) = a_truth
includes_limited (includes_2 n) = a_truth

if_limited : {r : Value} {c : Clause} {u v w : Value} → Limited v → Limited w → If u v w c r → Limited r
if_limited h k (if_1 t) = h
if_limited h k (if_2 n t) = k
if_limited h k (if_3 n m) = nothing_known

negate_limited : {r : Value} {c : Clause} {v : Value} → Limited v → Negate v c r → Limited r
negate_limited (one_limited (integer_small i)) (negate_1a (is_integer {n})) = one_limited (integer_small {n = neg_ℤ n} (let e = neg_abs n in omega arith))
negate_limited (one_limited (real_small i)) (negate_1b (is_real {n})) = one_limited (real_small {n = neg_ℤ n} (let e = neg_abs n in omega arith))
negate_limited h (negate_2 n u) = nothing_known
negate_limited (one_limited unknown_small) (negate_1a x14) = elim x14 [ ]
negate_limited (one_limited (truth_small {b = b})) (negate_1a x15) = elim x15 [ ]
negate_limited (one_limited (real_small {n = n} i)) (negate_1a x17) = elim x17 [ ]
negate_limited (one_limited (text_small {s = s} _)) (negate_1a x19) = elim x19 [ ]
negate_limited (list_limited {l = l} _ _) (negate_1a x15) = elim x15 [ ]
negate_limited (one_limited unknown_small) (negate_1b x15) = elim x15 [ ]
negate_limited (one_limited (truth_small {b = b})) (negate_1b x16) = elim x16 [ ]
negate_limited (one_limited (integer_small {n = n} i)) (negate_1b x18) = elim x18 [ ]
negate_limited (one_limited (text_small {s = s} _)) (negate_1b x20) = elim x20 [ ]
negate_limited (list_limited {l = l} _ _) (negate_1b x16) = elim x16 [ ]

isknown_limited : {r : Value} {c : Clause} {v : Value} → IsKnown v c r → Limited r
isknown_limited (isknown_1 h) = a_truth
isknown_limited (isknown_2 n) = a_truth

not_limited : {r : Value} {c : Clause} {v : Value} → Not v c r → Limited r
not_limited (not_1 h) = a_truth
not_limited (not_2 n) = a_truth

count_limited : {r : Value} {c : Clause} {v : Value} → Limited v → Count v c r → Limited r
count_limited (list_limited b h) (count_1 {s} {l} is_sequence) = one_limited (integer_small {n = pos (length (s ∷ l))} (omega arith))
count_limited h (count_2 n s) = zero_limited
count_limited h (count_3 n m) = nothing_known
count_limited (one_limited _) (count_1 {s = s} {l = l} x10) = elim x10 [ ]

sum_limited : {r : Value} {c : Clause} {v : Value} → Sum v c r → Limited r
sum_limited (sum_1a s h i) = one_limited (integer_small i)
sum_limited (sum_1b s h i) = nothing_known
sum_limited (sum_1c s h n i) = one_limited (real_small i)
sum_limited (sum_1d s h n i) = nothing_known
sum_limited (sum_2 n s) = zero_limited
sum_limited (sum_3 n m) = nothing_known

extreme_limited : {r : Value} {c : Clause} {e : Extreme} {v : Value} → Limited v → Extremal e v c r → Limited r
extreme_limited (list_limited b h) (extremal_1 {i} is_sequence k n) = one_limited (element_small i h)
extreme_limited h (extremal_2 n) = nothing_known
extreme_limited {e = e} (one_limited {s = s} _) (extremal_1 {l = l} {i = i} x10 k n) = elim x10 [ ]

nth_limited : {r : Value} {c : Clause} {v w : Value} → Limited w → Nth v w c r → Limited r
nth_limited (list_limited b h) (nth_1 {i} is_sequence k q) = one_limited (element_small i h)
nth_limited h (nth_2 n) = nothing_known
nth_limited {v = v} (one_limited {s = s} _) (nth_1 {l = l} {i = i} x10 k q) = elim x10 [ ]

is_in_limited : {τ : View} {T : ℕ} {s : TaskState} {r : Value} {c : Clause} {v : Value} → IsIn τ T s v c r → Limited r
is_in_limited (is_in_1 h) = nothing_known
is_in_limited (is_in_2 h e) = a_truth
is_in_limited (is_in_3 h n) = a_truth

F-limited : {τ : View} {T : ℕ} {o : Op} {vs : List Value} {c : Clause} {r : Value} → F τ T o vs c r → EachLimited vs → Limited r
F-limited (F-arithmetic h) l = arith_limited h
F-limited (F-divide h) l = divide_limited h
F-limited (F-compare (compared h)) l = a_truth
F-limited (F-and h) l = and_limited h
F-limited (F-or h) l = or_limited h
F-limited (F-includes h) l = includes_limited h
F-limited (F-oneof h) l = includes_limited h
F-limited (F-if h) (more_limited a (more_limited b (more_limited d none_limited))) = if_limited b d h
F-limited (F-negate h) (more_limited a none_limited) = negate_limited a h
F-limited (F-isknown h) l = isknown_limited h
F-limited (F-not h) l = not_limited h
F-limited (F-count h) (more_limited a none_limited) = count_limited a h
F-limited (F-sum h) l = sum_limited h
F-limited (F-extreme h) (more_limited a none_limited) = extreme_limited a h
F-limited (F-nth h) (more_limited a (more_limited b none_limited)) = nth_limited b h
F-limited (F-is-in h) l = is_in_limited h

elements_small : {ws : List Value} {l : List Scalar} → Elements ws l → EachLimited ws → EachSmall l
elements_small elements_none none_limited = none_small
elements_small (elements_more h) (more_limited (one_limited s) k) = more_small s (elements_small h k)

module _ (τ : View) (T : ℕ) where
  as_many : {es : Exprs} {ws : List Value} {l : List Scalar} → Values τ T es ws → Elements ws l → length l ≡ size es
  as_many values_none elements_none = refl
  as_many (values_more h hs) (elements_more k) = ap suc (as_many hs k)

  item_limited : Held τ → {d : ℕ} {c : Clause} {w : Value} → EvaluateData τ T d c w → Limited w
  item_limited q (data_2 h k) = q.held h k
  item_limited q (data_3 n) = nothing_known

  mutual
    pub limited : {e : Expr} {cs : List Clause} {w : Value} → Evaluates τ T e cs w → Held τ → Modest e → Limited w
    limited (atom_data h k) q m = item_limited q k
    limited (atom_text h) q (atom_modest m) = one_limited (text_small m)
    limited number_integer q (integer_modest m) = one_limited (integer_small m)
    limited number_float q (float_modest m) = one_limited (real_small m)
    limited string q (string_modest m) = one_limited (text_small m)
    limited (parentheses h) q (paren_modest m) = limited h q m
    limited (infix_form i g h k) q (apply_modest (more_modest m (more_modest n none_modest))) = F-limited k (more_limited (limited g q m) (more_limited (limited h q n) none_limited))
    limited (functor_form n hs k d) q (apply_modest m) = F-limited k (all_limited hs q m)
    limited (listing {l} hs k) q (listing_modest b m) = list_limited {l = l} (let e = as_many hs k in omega arith) (elements_small k (all_limited hs q m))

    pub all_limited : {es : Exprs} {ws : List Value} → Values τ T es ws → Held τ → AllModest es → EachLimited ws
    all_limited values_none q m = none_limited
    all_limited (values_more h hs) q (more_modest m ms) = more_limited (limited h q m) (all_limited hs q ms)

-- ---- the edges: what is just within each limit, and what is just beyond

abbrev pub copies : {A : Type 0} → ℕ → A → List A
copies zero a = []
copies (suc n) a = a ∷ copies n a

unknowns : (n : ℕ) → EachSmall (copies n unknown)
unknowns zero = none_small
unknowns (suc n) = more_small unknown_small (unknowns n)

pub integer_edge : Limited (one (integer (negsuc 1_999_999))) × ¬ Limited (one (integer (pos 2_000_001)))
integer_edge = (one_limited (integer_small {n = negsuc 1_999_999} (omega arith)), beyond)
  where
    beyond : ¬ Limited (one (integer (pos 2_000_001)))
    beyond (one_limited (integer_small h)) = omega arith

pub real_edge : Limited (one (real (negsuc 1_999_999_999))) × ¬ Limited (one (real (pos 2_000_000_001)))
real_edge = (one_limited (real_small {n = negsuc 1_999_999_999} (omega arith)), beyond)
  where
    beyond : ¬ Limited (one (real (pos 2_000_000_001)))
    beyond (one_limited (real_small h)) = omega arith

pub text_edge : Limited (one (text (copies 48 0))) × ¬ Limited (one (text (copies 49 0)))
text_edge = (one_limited (text_small {s = copies 48 0} (omega arith)), beyond)
  where
    beyond : ¬ Limited (one (text (copies 49 0)))
    beyond (one_limited (text_small h)) = omega arith

pub list_edge : Limited (sequence (copies 16 unknown)) × ¬ Limited (sequence (copies 17 unknown))
list_edge = (list_limited {l = copies 16 unknown} (omega arith) (unknowns 16), beyond)
  where
    beyond : ¬ Limited (sequence (copies 17 unknown))
    beyond (list_limited h k) = omega arith
