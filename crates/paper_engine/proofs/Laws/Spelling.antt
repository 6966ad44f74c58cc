-- Law: no value has a text with a byte over 127, where the expression's and the items' texts have none. By induction on the evaluation.
use Rattle.std.specs.Prelude.{ℕ, zero, suc, ◌≡◌, Bool, List, [], ◌∷◌, ℤ, get_or}
use Rattle.std.proofs.Math.Option.{some}
use Rattle.paper_expressions.specs.Values.{Scalar, unknown, truth, integer, real, text, Value, one, sequence, TaskState, is_integer, is_real, is_sequence}
use Rattle.paper_expressions.specs.Clauses.{Clause}
use Rattle.paper_expressions.specs.View.{View, Item, At, at_first, at_later}
use Rattle.paper_expressions.specs.Operators.{Arithmetic, Arith, arith_1a, arith_1b, arith_1c, arith_1d, arith_2, Divide, divide_1a, divide_1b, divide_1c, divide_2, compared, And, and_1, and_2, Or, or_1, or_2, Includes, includes_1, includes_2}
use Rattle.paper_expressions.specs.Operators.{If, if_1, if_2, if_3, Negate, negate_1a, negate_1b, negate_2, IsKnown, isknown_1, isknown_2, Not, not_1, not_2, Count, count_1, count_2, count_3, Sum, sum_1a, sum_1b, sum_1c, sum_1d, sum_2, sum_3}
use Rattle.paper_expressions.specs.Operators.{Extreme, Extremal, extremal_1, extremal_2, Nth, nth_1, nth_2, IsIn, is_in_1, is_in_2, is_in_3, Op}
use Rattle.paper_expressions.specs.Operators.{F, F-arithmetic, F-divide, F-compare, F-and, F-or, F-includes, F-oneof, F-if, F-negate, F-isknown, F-not, F-count, F-sum, F-extreme, F-nth, F-is-in}
use Rattle.paper_expressions.specs.Expressions.{Expr, Exprs}
use Rattle.paper_expressions.specs.Evaluation.{EvaluateData, data_2, data_3, Elements, elements_none, elements_more, Evaluates, atom_data, atom_text, number_integer, number_float, string, parentheses, infix_form, functor_form, listing, Values, values_none, values_more}
use Rattle.paper_rows.proofs.Laws.Lists.{no_element}
use Rattle.paper_rows.proofs.Laws.Sized.{Ascii, Plain, AllPlain}

pub data Spelt : Scalar → Type 0 where
  spelt_unknown : Spelt unknown
  spelt_truth : {b : Bool} → Spelt (truth b)
  spelt_integer : {n : ℤ} → Spelt (integer n)
  spelt_real : {n : ℤ} → Spelt (real n)
  spelt_text : {s : List ℕ} → Ascii s → Spelt (text s)

pub data EachSpelt : List Scalar → Type 0 where
  none_spelt : EachSpelt []
  more_spelt : {s : Scalar} {l : List Scalar} → Spelt s → EachSpelt l → EachSpelt (s ∷ l)

pub data WellSpelt : Value → Type 0 where
  one_spelt : {s : Scalar} → Spelt s → WellSpelt (one s)
  list_spelt : {l : List Scalar} → EachSpelt l → WellSpelt (sequence l)

data AllSpelt : List Value → Type 0 where
  no_values : AllSpelt []
  more_values : {v : Value} {vs : List Value} → WellSpelt v → AllSpelt vs → AllSpelt (v ∷ vs)

pub record Read (τ : View) : Type 0 where
  pub held : {i : ℕ} {x : Item} {w : Value} → At τ.items i x → x.value ≡ some w → WellSpelt w

element_spelt : {l : List Scalar} (i : ℕ) → EachSpelt l → Spelt (get_or l i unknown)
element_spelt i none_spelt = spelt_unknown
element_spelt zero (more_spelt h k) = h
element_spelt (suc i) (more_spelt h k) = element_spelt i k

nothing : WellSpelt (one unknown)
nothing = one_spelt spelt_unknown

arith_spelt : {r : Value} {c : Clause} {o : Arithmetic} {v w : Value} → Arith o v w c r → WellSpelt r
arith_spelt (arith_1a h k i) = one_spelt spelt_integer
arith_spelt (arith_1b h k i) = nothing
arith_spelt (arith_1c h k b i) = one_spelt spelt_real
arith_spelt (arith_1d h k b i) = nothing
arith_spelt (arith_2 b h) = nothing

divide_spelt : {r : Value} {c : Clause} {v w : Value} → Divide v w c r → WellSpelt r
divide_spelt (divide_1a h k z i) = one_spelt spelt_real
divide_spelt (divide_1b h k z i) = nothing
divide_spelt (divide_1c h k z) = nothing
divide_spelt (divide_2 b h) = nothing

and_spelt : {r : Value} {c : Clause} {v w : Value} → And v w c r → WellSpelt r
and_spelt (and_1 h k) = one_spelt spelt_truth
and_spelt (and_2 n) = one_spelt spelt_truth

or_spelt : {r : Value} {c : Clause} {v w : Value} → Or v w c r → WellSpelt r
or_spelt (or_1 h) = one_spelt spelt_truth
or_spelt (or_2 n) = one_spelt spelt_truth

includes_spelt : {r : Value} {c : Clause} {v w : Value} → Includes v w c r → WellSpelt r
includes_spelt (includes_1 h b k) = one_spelt spelt_truth
includes_spelt (includes_2 n) = one_spelt spelt_truth

if_spelt : {r : Value} {c : Clause} {u v w : Value} → WellSpelt v → WellSpelt w → If u v w c r → WellSpelt r
if_spelt h k (if_1 t) = h
if_spelt h k (if_2 n t) = k
if_spelt h k (if_3 n m) = nothing

negate_spelt : {r : Value} {c : Clause} {v : Value} → Negate v c r → WellSpelt r
negate_spelt (negate_1a h) = one_spelt spelt_integer
negate_spelt (negate_1b h) = one_spelt spelt_real
negate_spelt (negate_2 n u) = nothing

isknown_spelt : {r : Value} {c : Clause} {v : Value} → IsKnown v c r → WellSpelt r
isknown_spelt (isknown_1 h) = one_spelt spelt_truth
isknown_spelt (isknown_2 n) = one_spelt spelt_truth

not_spelt : {r : Value} {c : Clause} {v : Value} → Not v c r → WellSpelt r
not_spelt (not_1 h) = one_spelt spelt_truth
not_spelt (not_2 n) = one_spelt spelt_truth

count_spelt : {r : Value} {c : Clause} {v : Value} → Count v c r → WellSpelt r
count_spelt (count_1 h) = one_spelt spelt_integer
count_spelt (count_2 n s) = one_spelt spelt_integer
count_spelt (count_3 n m) = nothing

sum_spelt : {r : Value} {c : Clause} {v : Value} → Sum v c r → WellSpelt r
sum_spelt (sum_1a s h i) = one_spelt spelt_integer
sum_spelt (sum_1b s h i) = nothing
sum_spelt (sum_1c s h n i) = one_spelt spelt_real
sum_spelt (sum_1d s h n i) = nothing
sum_spelt (sum_2 n s) = one_spelt spelt_integer
sum_spelt (sum_3 n m) = nothing

extreme_spelt : {r : Value} {c : Clause} {e : Extreme} {v : Value} → WellSpelt v → Extremal e v c r → WellSpelt r
extreme_spelt (list_spelt h) (extremal_1 {i} is_sequence k n) = one_spelt (element_spelt i h)
extreme_spelt h (extremal_2 n) = nothing
extreme_spelt {e = e} (one_spelt {s = s} _) (extremal_1 {l = l} {i = i} x10 k n) = elim x10 [ ]

nth_spelt : {r : Value} {c : Clause} {v w : Value} → WellSpelt w → Nth v w c r → WellSpelt r
nth_spelt (list_spelt h) (nth_1 {i} is_sequence k q) = one_spelt (element_spelt i h)
nth_spelt h (nth_2 n) = nothing
nth_spelt {v = v} (one_spelt {s = s} _) (nth_1 {l = l} {i = i} x10 k q) = elim x10 [ ]

is_in_spelt : {τ : View} {T : ℕ} {s : TaskState} {r : Value} {c : Clause} {v : Value} → IsIn τ T s v c r → WellSpelt r
is_in_spelt (is_in_1 h) = nothing
is_in_spelt (is_in_2 h e) = one_spelt spelt_truth
is_in_spelt (is_in_3 h n) = one_spelt spelt_truth

F-spelt : {τ : View} {T : ℕ} {o : Op} {vs : List Value} {c : Clause} {r : Value} → F τ T o vs c r → AllSpelt vs → WellSpelt r
F-spelt (F-arithmetic h) l = arith_spelt h
F-spelt (F-divide h) l = divide_spelt h
F-spelt (F-compare (compared h)) l = one_spelt spelt_truth
F-spelt (F-and h) l = and_spelt h
F-spelt (F-or h) l = or_spelt h
F-spelt (F-includes h) l = includes_spelt h
F-spelt (F-oneof h) l = includes_spelt h
F-spelt (F-if h) (more_values a (more_values b (more_values d no_values))) = if_spelt b d h
F-spelt (F-negate h) l = negate_spelt h
F-spelt (F-isknown h) l = isknown_spelt h
F-spelt (F-not h) l = not_spelt h
F-spelt (F-count h) l = count_spelt h
F-spelt (F-sum h) l = sum_spelt h
F-spelt (F-extreme h) (more_values a no_values) = extreme_spelt a h
F-spelt (F-nth h) (more_values a (more_values b no_values)) = nth_spelt b h
F-spelt (F-is-in h) l = is_in_spelt h

elements_spelt : {ws : List Value} {l : List Scalar} → Elements ws l → AllSpelt ws → EachSpelt l
elements_spelt elements_none no_values = none_spelt
elements_spelt (elements_more h) (more_values (one_spelt s) k) = more_spelt s (elements_spelt h k)

module _ (τ : View) (T : ℕ) (read : Read τ) where
  item_spelt : {d : ℕ} {c : Clause} {w : Value} → EvaluateData τ T d c w → WellSpelt w
  item_spelt (data_2 h k) = read.held h k
  item_spelt (data_3 n) = nothing

  mutual
    pub well_spelt : {e : Expr} {cs : List Clause} {w : Value} → Evaluates τ T e cs w → Plain e → WellSpelt w
    well_spelt (atom_data h k) m = item_spelt k
    well_spelt (atom_text h) m = one_spelt (spelt_text m)
    well_spelt number_integer m = one_spelt spelt_integer
    well_spelt number_float m = one_spelt spelt_real
    well_spelt string m = one_spelt (spelt_text m)
    well_spelt (parentheses h) m = well_spelt h m
    well_spelt (infix_form i g h k) m = F-spelt k (more_values (well_spelt g m.0) (more_values (well_spelt h m.1.0) no_values))
    well_spelt (functor_form n hs k d) m = F-spelt k (all_spelt hs m)
    well_spelt (listing hs k) m = list_spelt (elements_spelt k (all_spelt hs m))

    all_spelt : {es : Exprs} {ws : List Value} → Values τ T es ws → AllPlain es → AllSpelt ws
    all_spelt values_none m = no_values
    all_spelt (values_more h hs) m = more_values (well_spelt h m.0) (all_spelt hs m.1)
