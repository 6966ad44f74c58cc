-- Law: each operator as a function of its values. Whatever clause fits is the function's, so at most one fits.
use Rattle.std.specs.Prelude.{◌≡◌, refl, Bool, true, false, cond, ◌&&◌, ◌||◌, ◌⊎◌, List, [], ◌∷◌, ℕ, zero, suc, ◌≤◌, ◌<◌, ℤ, pos, negsuc, nat_abs, neg_ℤ, ◌+ℤ◌, ◌*ℤ◌, get_or, length, leb, eqb, ltb}
use Rattle.std.proofs.Common.{sym, ap, ap₂, subst, ◌∙◌, inl, inr, arith, le-leb, ne_eqb, lt-ltb, le-ltb}
use Rattle.std.proofs.Math.Bool as Bool
use Rattle.std.proofs.Math.Option.{Option, none, some}
use Rattle.std.proofs.lemmas.Bool.{lt-leb}
use Rattle.paper_expressions.specs.Limits.{integer_limit, real_limit}
use Rattle.paper_expressions.specs.Values.{Scalar, unknown, truth, integer, real, text, Value, one, sequence, TaskState, TaskState-discrete, InLimit, InRealLimit, unit}
use Rattle.paper_expressions.specs.Values.{IsUnknown, is-unknown, IsTruth, is_truth, IsInteger, is_integer, IsReal, is_real, Number, integer_is, real_is, IsText, is_text, IsSequence, is_sequence, NonEmpty, non_empty, BothIntegers, BothNumbers}
use Rattle.paper_expressions.specs.Clauses.{Clause, §11·1·1-1a, §11·1·1-1b, §11·1·1-1c, §11·1·1-1d, §11·1·1-2, §11·1·2-1a, §11·1·2-1b, §11·1·2-1c, §11·1·2-2, §11·1·4-1, §11·1·4-2, §11·1·4-3, §11·1·4-4, §11·1·6-1, §11·1·6-2}
use Rattle.paper_expressions.specs.Clauses.{§11·2·1-1, §11·2·1-2, §11·2·1-3, §11·2·2-1a, §11·2·2-1b, §11·2·2-2, §11·2·3-1, §11·2·3-2, §11·2·4-1, §11·2·4-2, §11·2·5-1, §11·2·5-2, §11·2·5-3}
use Rattle.paper_expressions.specs.Clauses.{§11·2·6-1a, §11·2·6-1b, §11·2·6-1c, §11·2·6-1d, §11·2·6-2, §11·2·6-3, §11·2·9-1, §11·2·9-2, §11·2·10-1, §11·2·10-2, §11·2·10-3}
use Rattle.paper_expressions.specs.View.{View, Task, At, Apart}
use Rattle.paper_expressions.specs.Operators.{Arithmetic, whole, decimal, Arith, arith_1a, arith_1b, arith_1c, arith_1d, arith_2, Divide, divide_1a, divide_1b, divide_1c, divide_2, quotient}
use Rattle.paper_expressions.specs.Operators.{Sign, +1, -1, ±0, ±?, Comp, comp_1, Comparison, table, Compare, compared, And, and_1, and_2, Or, or_1, or_2, element, Includes, includes_1, includes_2}
use Rattle.paper_expressions.specs.Operators.{If, if_1, if_2, if_3, Negate, negate_1a, negate_1b, negate_2, IsKnown, isknown_1, isknown_2, Not, not_1, not_2, Count, count_1, count_2, count_3}
use Rattle.paper_expressions.specs.Operators.{Integers, no_integer, an_integer, Numbers, no_number, a_number, Summable, summable, Sum, sum_1a, sum_1b, sum_1c, sum_1d, sum_2, sum_3}
use Rattle.paper_expressions.specs.Operators.{Extreme, max, min, Fine, max_up, max_level, max_unknown, min_down, min_level, min_unknown, Unbeaten, unbeaten, Best, clause_1, clause_2, Extremal, extremal_1, extremal_2}
use Rattle.paper_expressions.specs.Operators.{Nth, nth_1, nth_2, Resolved, by_text, by_unknown, InState, IsIn, is_in_1, is_in_2, is_in_3}
use Rattle.paper_expressions.specs.Operators.{Op, arithmetic, divide, compare, and, or, includes, oneof, if, negate, isknown, not, count, sum, extreme, nth, is-in, no_such}
use Rattle.paper_expressions.specs.Operators.{F, F-arithmetic, F-divide, F-compare, F-and, F-or, F-includes, F-oneof, F-if, F-negate, F-isknown, F-not, F-count, F-sum, F-extreme, F-nth, F-is-in}
use Rattle.paper_expressions.proofs.Laws.Search.{no_clash, Same, Reflects, of_yes, of_no, reflects_true, reflects_false, reflects_iff, reflects_not, less_reflects, at_f, at_only, at_has, allb, all_reflects, firstb, first_of, first_same, first_none}
use Rattle.paper_expressions.proofs.Laws.Resolve.{resolve_task_f, task_fits, task_same}
use Rattle.paper_expressions.proofs.Laws.Compare.{Verdict, got, stuck, Simple, Kind, simple, several, nothing, number, string, verity, kind, kind_s, comp_k, comp_s, comp_f, comp_only, one_sign}
use Rattle.paper_expressions.proofs.Laws.Compare.{Compared, comp_numbers, comp_texts, unknown_left, unknown_right, comp_end_right}

-- the clause that fits (or the clauses) and the value, or that none does
pub data Answer (C : Type 0) : Type 0 where
  gives : C → Value → Answer C
  fails : Answer C

pub same_answer : {C : Type 0} {c d : C} {r s : Value} (a : Answer C) → a ≡ gives c r → a ≡ gives d s → Same c r d s
same_answer a h k = record { clause = cc; value = cc }

beyond : (z : ℤ) (m : ℕ) → ¬ (nat_abs z ≤ m) → leb (nat_abs z) m ≡ false
beyond z m h = lt-leb (nat_abs z) m (let k : m < nat_abs z = omega arith in k)

-- ---- arithmetic

pub data Summand : Type 0 where
  absent other_sort : Summand
  entire : ℤ → Summand
  part : ℤ → Summand

abbrev pub summand : Value → Summand
summand (one unknown) = absent
summand (one (truth b)) = other_sort
summand (one (integer n)) = entire n
summand (one (real n)) = part n
summand (one (text s)) = other_sort
summand (sequence l) = other_sort

abbrev pub real_sum : ℤ → Answer Clause
real_sum z = cond (leb (nat_abs z) real_limit) (gives §11·1·1-1c (one (real z))) (gives §11·1·1-1d (one unknown))

abbrev pub whole_sum : ℤ → Answer Clause
whole_sum z = cond (leb (nat_abs z) integer_limit) (gives §11·1·1-1a (one (integer z))) (gives §11·1·1-1b (one unknown))

abbrev pub arith_f : Arithmetic → Summand → Summand → Answer Clause
arith_f o absent s = gives §11·1·1-2 (one unknown)
arith_f o other_sort absent = gives §11·1·1-2 (one unknown)
arith_f o other_sort other_sort = fails
arith_f o other_sort (entire y) = fails
arith_f o other_sort (part y) = fails
arith_f o (entire x) absent = gives §11·1·1-2 (one unknown)
arith_f o (entire x) other_sort = fails
arith_f o (entire x) (entire y) = whole_sum (whole o x y)
arith_f o (entire x) (part y) = real_sum (decimal o (x *ℤ unit) y)
arith_f o (part x) absent = gives §11·1·1-2 (one unknown)
arith_f o (part x) other_sort = fails
arith_f o (part x) (entire y) = real_sum (decimal o x (y *ℤ unit))
arith_f o (part x) (part y) = real_sum (decimal o x y)

absent_right : (o : Arithmetic) (s : Summand) → arith_f o s absent ≡ gives §11·1·1-2 (one unknown)
absent_right o absent = refl
absent_right o other_sort = refl
absent_right o (entire x) = refl
absent_right o (part x) = refl

real_answer : (o : Arithmetic) {v w : Value} {x y : ℤ} → Number v x → Number w y → ¬ BothIntegers v w → arith_f o (summand v) (summand w) ≡ real_sum (decimal o x y)
real_answer o (integer_is {n}) (integer_is {n = m}) b = absurd (b (n, m, is_integer, is_integer))
real_answer o integer_is real_is b = refl
real_answer o real_is integer_is b = refl
real_answer o real_is real_is b = refl

pub arith_only : {o : Arithmetic} {v w r : Value} {c : Clause} → Arith o v w c r → arith_f o (summand v) (summand w) ≡ gives c r
arith_only {o} (arith_1a (is_integer {n}) (is_integer {n = m}) i) = rw (le-leb (nat_abs (whole o n m)) integer_limit i)
arith_only {o} (arith_1b (is_integer {n}) (is_integer {n = m}) i) = rw (beyond (whole o n m) integer_limit i)
arith_only {o} (arith_1c {x} {y} h k b i) = real_answer o h k b ∙ rw (le-leb (nat_abs (decimal o x y)) real_limit i)
arith_only {o} (arith_1d {x} {y} h k b i) = real_answer o h k b ∙ rw (beyond (decimal o x y) real_limit i)
arith_only (arith_2 b (inl is-unknown)) = refl
arith_only {o} {v} (arith_2 b (inr is-unknown)) = absent_right o (summand v)

-- ---- divide

abbrev pub zero_z : ℤ → Bool
zero_z (pos n) = eqb n 0
zero_z (negsuc n) = false

not_zero : (y : ℤ) → ¬ (y ≡ pos 0) → zero_z y ≡ false
not_zero (pos n) h = ne_eqb n 0 (λ e. h (ap pos e))
not_zero (negsuc n) h = refl

abbrev pub divided_f : ℤ → ℤ → Answer Clause
divided_f x y = cond (zero_z y) (gives §11·1·2-1c (one unknown)) (cond (leb (nat_abs (quotient x y)) real_limit) (gives §11·1·2-1a (one (real (quotient x y)))) (gives §11·1·2-1b (one unknown)))

pub data Term : Type 0 where
  missing other : Term
  amount : ℤ → Term

abbrev pub term : Value → Term
term (one unknown) = missing
term (one (truth b)) = other
term (one (integer n)) = amount (n *ℤ unit)
term (one (real n)) = amount n
term (one (text s)) = other
term (sequence l) = other

abbrev pub over : Term → Term → Answer Clause
over missing t = gives §11·1·2-2 (one unknown)
over other missing = gives §11·1·2-2 (one unknown)
over other other = fails
over other (amount y) = fails
over (amount x) missing = gives §11·1·2-2 (one unknown)
over (amount x) other = fails
over (amount x) (amount y) = divided_f x y

missing_right : (t : Term) → over t missing ≡ gives §11·1·2-2 (one unknown)
missing_right missing = refl
missing_right other = refl
missing_right (amount x) = refl

term_number : {v : Value} {x : ℤ} → Number v x → term v ≡ amount x
term_number integer_is = refl
term_number real_is = refl

pub divide_only : {v w r : Value} {c : Clause} → Divide v w c r → over (term v) (term w) ≡ gives c r
divide_only (divide_1a {x} {y} h k z i) = rw (term_number h, term_number k, not_zero y z, le-leb _ _ i)
divide_only (divide_1b {x} {y} h k z i) = rw (term_number h, term_number k, not_zero y z, beyond (quotient x y) real_limit i)
divide_only (divide_1c {x} {y} h k z) = rw (term_number h, term_number k, z)
divide_only (divide_2 b (inl is-unknown)) = refl
divide_only {v} (divide_2 b (inr is-unknown)) = missing_right (term v)

-- ---- and, or, not, negate, count

abbrev pub is_true_fn : Value → Bool
is_true_fn (one unknown) = false
is_true_fn (one (truth b)) = b
is_true_fn (one (integer n)) = false
is_true_fn (one (real n)) = false
is_true_fn (one (text s)) = false
is_true_fn (sequence l) = false

truthful : (v : Value) → is_true_fn v ≡ true → IsTruth v true
truthful (one unknown) e = absurd (no_clash (cc))
truthful (one (truth true)) e = is_truth
truthful (one (truth false)) e = absurd (no_clash (cc))
truthful (one (integer n)) e = absurd (no_clash (cc))
truthful (one (real n)) e = absurd (no_clash (cc))
truthful (one (text s)) e = absurd (no_clash (cc))
truthful (sequence l) e = absurd (no_clash (cc))

abbrev pub and_f : Value → Value → Answer Clause
and_f v w = cond (is_true_fn v && is_true_fn w) (gives §11·1·4-1 (one (truth true))) (gives §11·1·4-2 (one (truth false)))

not_both_true : (a b : Bool) → ¬ ((a ≡ true) × (b ≡ true)) → (a && b) ≡ false
not_both_true true true n = absurd (n (refl, refl))
not_both_true true false n = refl
not_both_true false b n = refl

and_only : {v w r : Value} {c : Clause} → And v w c r → and_f v w ≡ gives c r
and_only (and_1 is_truth is_truth) = refl
and_only {v} {w} (and_2 n) = rw (not_both_true (is_true_fn v) (is_true_fn w) (λ b. n (truthful v b.0, truthful w b.1)))

abbrev pub or_f : Value → Value → Answer Clause
or_f v w = cond (is_true_fn v || is_true_fn w) (gives §11·1·4-3 (one (truth true))) (gives §11·1·4-4 (one (truth false)))

or_true : (b : Bool) → (b || true) ≡ true
or_true true = refl
or_true false = refl

neither_true : (a b : Bool) → ¬ (a ≡ true) → ¬ (b ≡ true) → (a || b) ≡ false
neither_true true b n m = absurd (n refl)
neither_true false true n m = absurd (m refl)
neither_true false false n m = refl

or_only : {v w r : Value} {c : Clause} → Or v w c r → or_f v w ≡ gives c r
or_only (or_1 (inl is_truth)) = refl
or_only {v} (or_1 (inr is_truth)) = rw (or_true (is_true_fn v))
or_only {v} {w} (or_2 n) = rw (neither_true (is_true_fn v) (is_true_fn w) (λ e. n (inl (truthful v e))) (λ e. n (inr (truthful w e))))

abbrev pub not_f : Value → Answer Clause
not_f (one unknown) = gives §11·2·4-2 (one (truth false))
not_f (one (truth true)) = gives §11·2·4-2 (one (truth false))
not_f (one (truth false)) = gives §11·2·4-1 (one (truth true))
not_f (one (integer n)) = gives §11·2·4-2 (one (truth false))
not_f (one (real n)) = gives §11·2·4-2 (one (truth false))
not_f (one (text s)) = gives §11·2·4-2 (one (truth false))
not_f (sequence l) = gives §11·2·4-2 (one (truth false))

not_else : (v : Value) → ¬ IsTruth v false → not_f v ≡ gives §11·2·4-2 (one (truth false))
not_else (one unknown) n = refl
not_else (one (truth true)) n = refl
not_else (one (truth false)) n = absurd (n is_truth)
not_else (one (integer k)) n = refl
not_else (one (real k)) n = refl
not_else (one (text s)) n = refl
not_else (sequence l) n = refl

not_only : {v r : Value} {c : Clause} → Not v c r → not_f v ≡ gives c r
not_only (not_1 is_truth) = refl
not_only {v} (not_2 n) = not_else v n

abbrev pub negate_f : Value → Answer Clause
negate_f (one unknown) = gives §11·2·2-2 (one unknown)
negate_f (one (truth b)) = fails
negate_f (one (integer n)) = gives §11·2·2-1a (one (integer (neg_ℤ n)))
negate_f (one (real n)) = gives §11·2·2-1b (one (real (neg_ℤ n)))
negate_f (one (text s)) = fails
negate_f (sequence l) = fails

negate_only : {v r : Value} {c : Clause} → Negate v c r → negate_f v ≡ gives c r
negate_only (negate_1a is_integer) = refl
negate_only (negate_1b is_real) = refl
negate_only (negate_2 n is-unknown) = refl

abbrev pub count_f : Value → Answer Clause
count_f (one s) = gives §11·2·5-3 (one unknown)
count_f (sequence []) = gives §11·2·5-2 (one (integer (pos 0)))
count_f (sequence (s ∷ l)) = gives §11·2·5-1 (one (integer (pos (length (s ∷ l)))))

count_else : (v : Value) → ¬ NonEmpty v → ¬ IsSequence v [] → count_f v ≡ gives §11·2·5-3 (one unknown)
count_else (one s) n m = refl
count_else (sequence []) n m = absurd (m is_sequence)
count_else (sequence (s ∷ l)) n m = absurd (n non_empty)

count_only : {v r : Value} {c : Clause} → Count v c r → count_f v ≡ gives c r
count_only (count_1 is_sequence) = refl
count_only (count_2 n is_sequence) = refl
count_only {v} (count_3 n m) = count_else v n m

-- ---- sum

abbrev pub add_z : ℤ → Option ℤ → Option ℤ
add_z x none = none
add_z x (some z) = some (x +ℤ z)

abbrev pub integers_f : List Scalar → Option ℤ
integers_f [] = some (pos 0)
integers_f (unknown ∷ l) = none
integers_f (truth b ∷ l) = none
integers_f (integer n ∷ l) = add_z n (integers_f l)
integers_f (real n ∷ l) = none
integers_f (text s ∷ l) = none

abbrev pub numbers_f : List Scalar → Option ℤ
numbers_f [] = some (pos 0)
numbers_f (unknown ∷ l) = none
numbers_f (truth b ∷ l) = none
numbers_f (integer n ∷ l) = add_z (n *ℤ unit) (numbers_f l)
numbers_f (real n ∷ l) = add_z n (numbers_f l)
numbers_f (text s ∷ l) = none

integers_only : {l : List Scalar} {z : ℤ} → Integers l z → integers_f l ≡ some z
integers_only no_integer = refl
integers_only (an_integer h) = rw (integers_only h)

numbers_only : {l : List Scalar} {z : ℤ} → Numbers l z → numbers_f l ≡ some z
numbers_only no_number = refl
numbers_only (a_number integer_is h) = rw (numbers_only h)
numbers_only (a_number real_is h) = rw (numbers_only h)

-- the sum, or that there is none
integers_found : (l : List Scalar) → ((z : ℤ) × Integers l z) ⊎ (integers_f l ≡ none)
integers_found [] = inl (pos 0, no_integer)
integers_found (unknown ∷ l) = inr refl
integers_found (truth b ∷ l) = inr refl
integers_found (integer n ∷ l) = go (integers_found l)
  where
    go : ((z : ℤ) × Integers l z) ⊎ (integers_f l ≡ none) → ((z : ℤ) × Integers (integer n ∷ l) z) ⊎ (add_z n (integers_f l) ≡ none)
    go (inl k) = inl (n +ℤ k.0, an_integer k.1)
    go (inr e) = inr (rw e)
integers_found (real n ∷ l) = inr refl
integers_found (text s ∷ l) = inr refl

numbers_found : (l : List Scalar) → ((z : ℤ) × Numbers l z) ⊎ (numbers_f l ≡ none)
numbers_found [] = inl (pos 0, no_number)
numbers_found (unknown ∷ l) = inr refl
numbers_found (truth b ∷ l) = inr refl
numbers_found (integer n ∷ l) = go (numbers_found l)
  where
    go : ((z : ℤ) × Numbers l z) ⊎ (numbers_f l ≡ none) → ((z : ℤ) × Numbers (integer n ∷ l) z) ⊎ (add_z (n *ℤ unit) (numbers_f l) ≡ none)
    go (inl k) = inl (n *ℤ unit +ℤ k.0, a_number integer_is k.1)
    go (inr e) = inr (rw e)
numbers_found (real n ∷ l) = go (numbers_found l)
  where
    go : ((z : ℤ) × Numbers l z) ⊎ (numbers_f l ≡ none) → ((z : ℤ) × Numbers (real n ∷ l) z) ⊎ (add_z n (numbers_f l) ≡ none)
    go (inl k) = inl (n +ℤ k.0, a_number real_is k.1)
    go (inr e) = inr (rw e)
numbers_found (text s ∷ l) = inr refl

no_integers : (l : List Scalar) → ((z : ℤ) → ¬ Integers l z) → integers_f l ≡ none
no_integers l n = go (integers_found l)
  where
    go : ((z : ℤ) × Integers l z) ⊎ (integers_f l ≡ none) → integers_f l ≡ none
    go (inl k) = absurd (n k.0 k.1)
    go (inr e) = e

no_numbers : (l : List Scalar) → ((z : ℤ) → ¬ Numbers l z) → numbers_f l ≡ none
no_numbers l n = go (numbers_found l)
  where
    go : ((z : ℤ) × Numbers l z) ⊎ (numbers_f l ≡ none) → numbers_f l ≡ none
    go (inl k) = absurd (n k.0 k.1)
    go (inr e) = e

pub as_numbers : {l : List Scalar} {z : ℤ} → Integers l z → (x : ℤ) × Numbers l x
as_numbers no_integer = (pos 0, no_number)
as_numbers (an_integer {n} h) = let k = as_numbers h in (n *ℤ unit +ℤ k.0, a_number integer_is k.1)

abbrev pub total_f : Option ℤ → Option ℤ → Answer Clause
total_f (some z) o = cond (leb (nat_abs z) integer_limit) (gives §11·2·6-1a (one (integer z))) (gives §11·2·6-1b (one unknown))
total_f none (some z) = cond (leb (nat_abs z) real_limit) (gives §11·2·6-1c (one (real z))) (gives §11·2·6-1d (one unknown))
total_f none none = gives §11·2·6-3 (one unknown)

abbrev pub sum_f : Value → Answer Clause
sum_f (one s) = gives §11·2·6-3 (one unknown)
sum_f (sequence []) = gives §11·2·6-2 (one (integer (pos 0)))
sum_f (sequence (s ∷ l)) = total_f (integers_f (s ∷ l)) (numbers_f (s ∷ l))

sum_else : (v : Value) → ¬ Summable v → ¬ IsSequence v [] → sum_f v ≡ gives §11·2·6-3 (one unknown)
sum_else (one s) n m = refl
sum_else (sequence []) n m = absurd (m is_sequence)
sum_else (sequence (s ∷ l)) n m = ap₂ total_f (no_integers (s ∷ l) (λ z h. n (summable (as_numbers h).1))) (no_numbers (s ∷ l) (λ z h. n (summable h)))

whole_total : (l : List Scalar) {z : ℤ} → Integers l z → total_f (integers_f l) (numbers_f l) ≡ cond (leb (nat_abs z) integer_limit) (gives §11·2·6-1a (one (integer z))) (gives §11·2·6-1b (one unknown))
whole_total l h = ap (λ (x : Option ℤ). total_f x (numbers_f l)) (integers_only h)

real_total : (l : List Scalar) {z : ℤ} → Numbers l z → ((x : ℤ) → ¬ Integers l x) → total_f (integers_f l) (numbers_f l) ≡ cond (leb (nat_abs z) real_limit) (gives §11·2·6-1c (one (real z))) (gives §11·2·6-1d (one unknown))
real_total l h n = ap₂ total_f (no_integers l n) (numbers_only h)

sum_only : {v r : Value} {c : Clause} → Sum v c r → sum_f v ≡ gives c r
sum_only (sum_1a {s} {l} {z} is_sequence h i) = whole_total (s ∷ l) h ∙ rw (le-leb (nat_abs z) integer_limit i)
sum_only (sum_1b {s} {l} {z} is_sequence h i) = whole_total (s ∷ l) h ∙ rw (beyond z integer_limit i)
sum_only (sum_1c {s} {l} {z} is_sequence h n i) = real_total (s ∷ l) h n ∙ rw (le-leb (nat_abs z) real_limit i)
sum_only (sum_1d {s} {l} {z} is_sequence h n i) = real_total (s ∷ l) h n ∙ rw (beyond z real_limit i)
sum_only (sum_2 n is_sequence) = refl
sum_only {v} (sum_3 n m) = sum_else v n m

-- ---- if, isknown

abbrev pub if_f : Value → Value → Value → Answer Clause
if_f (one unknown) v w = gives §11·2·1-3 (one unknown)
if_f (one (truth true)) v w = gives §11·2·1-1 v
if_f (one (truth false)) v w = gives §11·2·1-2 w
if_f (one (integer n)) v w = gives §11·2·1-3 (one unknown)
if_f (one (real n)) v w = gives §11·2·1-3 (one unknown)
if_f (one (text s)) v w = gives §11·2·1-3 (one unknown)
if_f (sequence l) v w = gives §11·2·1-3 (one unknown)

if_else : (u v w : Value) → ¬ IsTruth u true → ¬ IsTruth u false → if_f u v w ≡ gives §11·2·1-3 (one unknown)
if_else (one unknown) v w n m = refl
if_else (one (truth true)) v w n m = absurd (n is_truth)
if_else (one (truth false)) v w n m = absurd (m is_truth)
if_else (one (integer k)) v w n m = refl
if_else (one (real k)) v w n m = refl
if_else (one (text s)) v w n m = refl
if_else (sequence l) v w n m = refl

if_only : {u v w r : Value} {c : Clause} → If u v w c r → if_f u v w ≡ gives c r
if_only (if_1 is_truth) = refl
if_only (if_2 n is_truth) = refl
if_only {u} {v} {w} (if_3 n m) = if_else u v w n m

abbrev pub is_unknown : Value → Bool
is_unknown (one unknown) = true
is_unknown (one (truth b)) = false
is_unknown (one (integer n)) = false
is_unknown (one (real n)) = false
is_unknown (one (text s)) = false
is_unknown (sequence l) = false

known_not : (v : Value) → ¬ IsUnknown v → is_unknown v ≡ false
known_not (one unknown) n = absurd (n is-unknown)
known_not (one (truth b)) n = refl
known_not (one (integer k)) n = refl
known_not (one (real k)) n = refl
known_not (one (text s)) n = refl
known_not (sequence l) n = refl

abbrev pub isknown_f : Value → Answer Clause
isknown_f v = cond (is_unknown v) (gives §11·2·3-1 (one (truth true))) (gives §11·2·3-2 (one (truth false)))

isknown_only : {v r : Value} {c : Clause} → IsKnown v c r → isknown_f v ≡ gives c r
isknown_only (isknown_1 is-unknown) = refl
isknown_only {v} (isknown_2 n) = rw (known_not v n)

-- ---- comp of a value that is no sequence: whether its sign has a property

pub data Seen (v : Value) : Simple → Type 0 where
  seen_nothing : IsUnknown v → Seen v nothing
  seen_number : {x : ℤ} → Number v x → Seen v (number x)
  seen_string : {s : List ℕ} → IsText v s → Seen v (string s)
  seen_verity : Seen v verity

seen : (a : Scalar) → Seen (one a) (kind_s a)
seen unknown = seen_nothing is-unknown
seen (truth b) = seen_verity
seen (integer n) = seen_number integer_is
seen (real n) = seen_number real_is
seen (text s) = seen_string is_text

-- two values compare, or no clause of comp fits them
compares : {v w : Value} {k m : Simple} → Seen v k → Seen w m → Compared v w ⊎ (comp_s k m ≡ stuck)
compares (seen_nothing u) s = inl (unknown_left u)
compares (seen_number h) (seen_nothing u) = inl (unknown_right u)
compares (seen_number h) (seen_number k) = inl (comp_numbers h k)
compares (seen_number h) (seen_string k) = inr refl
compares (seen_number h) seen_verity = inr refl
compares (seen_string h) (seen_nothing u) = inl (unknown_right u)
compares (seen_string h) (seen_number k) = inr refl
compares (seen_string h) (seen_string k) = inl (comp_texts h k)
compares (seen_string h) seen_verity = inr refl
compares seen_verity (seen_nothing u) = inl (unknown_right u)
compares seen_verity (seen_number k) = inr refl
compares seen_verity (seen_string k) = inr refl
compares seen_verity seen_verity = inr refl

-- the same, where the second may be a sequence
compares_any : (a : Scalar) (w : Value) → Compared (one a) w ⊎ (comp_f (one a) w ≡ stuck)
compares_any a (one b) = compares (seen a) (seen b)
compares_any unknown (sequence m) = inl (unknown_left is-unknown)
compares_any (truth b) (sequence []) = inl (comp_end_right (λ h. elim h [ ]) (λ h. elim h [ ]))
compares_any (truth b) (sequence (s ∷ m)) = inr refl
compares_any (integer n) (sequence []) = inl (comp_end_right (λ h. elim h [ ]) (λ h. elim h [ ]))
compares_any (integer n) (sequence (s ∷ m)) = inr refl
compares_any (real n) (sequence []) = inl (comp_end_right (λ h. elim h [ ]) (λ h. elim h [ ]))
compares_any (real n) (sequence (s ∷ m)) = inr refl
compares_any (text t) (sequence []) = inl (comp_end_right (λ h. elim h [ ]) (λ h. elim h [ ]))
compares_any (text t) (sequence (s ∷ m)) = inr refl

-- comp gives a sign with the property P, as a test
pub data Such (P : Sign → Type 0) (v w : Value) : Type 0 where
  such : {c : Clause} {s : Sign} → Comp v w c s → P s → Such P v w

abbrev pub suchb : (Sign → Bool) → Verdict → Bool
suchb p (got c s) = p s
suchb p stuck = false

pub such_reflects : (P : Sign → Type 0) (p : Sign → Bool) → ((s : Sign) → Reflects (P s) (p s)) → (a : Scalar) (w : Value) → Reflects (Such P (one a) w) (suchb p (comp_f (one a) w))
such_reflects P p h a w = go (compares_any a w)
  where
    refuse : {c : Clause} {s : Sign} → Comp (one a) w c s → ¬ P s → Such P (one a) w → ⊥
    refuse k n (such m q) = n (subst P (one_sign m k) q)

    by_sign : {c : Clause} {s : Sign} {b : Bool} → Comp (one a) w c s → Reflects (P s) b → Reflects (Such P (one a) w) b
    by_sign k (of_yes q) = of_yes (such k q)
    by_sign k (of_no n) = of_no (refuse k n)

    never : comp_f (one a) w ≡ stuck → Such P (one a) w → ⊥
    never e (such m q) = let f = comp_only m in no_clash (cc)

    go : Compared (one a) w ⊎ (comp_f (one a) w ≡ stuck) → Reflects (Such P (one a) w) (suchb p (comp_f (one a) w))
    go (inl k) = rw (comp_only k.fits) (by_sign k.fits (h k.sign))
    go (inr e) = rw e (of_no (never e))

-- ---- what max and min ask of a sign

abbrev pub fineb : Extreme → Sign → Bool
fineb max +1 = true
fineb max -1 = false
fineb max ±0 = true
fineb max ±? = true
fineb min +1 = false
fineb min -1 = true
fineb min ±0 = true
fineb min ±? = true

fine_reflects : (e : Extreme) (s : Sign) → Reflects (Fine e s) (fineb e s)
fine_reflects max +1 = of_yes max_up
fine_reflects max -1 = of_no (λ h. elim h [ ])
fine_reflects max ±0 = of_yes max_level
fine_reflects max ±? = of_yes max_unknown
fine_reflects min +1 = of_no (λ h. elim h [ ])
fine_reflects min -1 = of_yes min_down
fine_reflects min ±0 = of_yes min_level
fine_reflects min ±? = of_yes min_unknown

such_unbeaten : {e : Extreme} {v w : Value} → Such (Fine e) v w → Unbeaten e v w
such_unbeaten (such h f) = unbeaten h f

unbeaten_such : {e : Extreme} {v w : Value} → Unbeaten e v w → Such (Fine e) v w
unbeaten_such (unbeaten h f) = such h f

above_reflects : (e : Extreme) (a b : Scalar) → Reflects (Unbeaten e (one a) (one b)) (suchb (fineb e) (comp_s (kind_s a) (kind_s b)))
above_reflects e a b = reflects_iff such_unbeaten unbeaten_such (such_reflects (Fine e) (fineb e) (fine_reflects e) a (one b))

-- ---- includes

abbrev pub zerob : Sign → Bool
zerob +1 = false
zerob -1 = false
zerob ±0 = true
zerob ±? = false

pub zero_reflects : (s : Sign) → Reflects (s ≡ ±0) (zerob s)
zero_reflects +1 = of_no (λ e. no_clash (cc))
zero_reflects -1 = of_no (λ e. no_clash (cc))
zero_reflects ±0 = of_yes refl
zero_reflects ±? = of_no (λ e. no_clash (cc))

abbrev pub missb : Value → Scalar → Bool
missb w a = Bool.not (suchb zerob (comp_f (one a) w))

miss_reflects : (w : Value) (a : Scalar) → Reflects (¬ Such (λ s. s ≡ ±0) (one a) w) (missb w a)
miss_reflects w a = reflects_not (such_reflects (λ (s : Sign). s ≡ ±0) zerob zero_reflects a w)

abbrev pub includes_f : Value → Value → Answer Clause
includes_f (one s) w = gives §11·1·6-2 (one (truth false))
includes_f (sequence l) w = cond (allb (length l) (λ j. missb w (get_or l j unknown))) (gives §11·1·6-2 (one (truth false))) (gives §11·1·6-1 (one (truth true)))

all_missed : (l : List Scalar) (w : Value) → Reflects ((j : ℕ) → j < length l → ¬ Such (λ s. s ≡ ±0) (element l j) w) (allb (length l) (λ j. missb w (get_or l j unknown)))
all_missed l w = all_reflects (λ (j : ℕ). ¬ Such (λ s. s ≡ ±0) (element l j) w) (λ j. missb w (get_or l j unknown)) (length l) (λ j. miss_reflects w (get_or l j unknown))

pub such_zero : {v w : Value} → Such (λ s. s ≡ ±0) v w → (c : Clause) × Comp v w c ±0
such_zero {v} {w} (such {c} h e) = (c, subst (Comp v w c) e h)

includes_else : (v w : Value) → ((l : List Scalar) (j : ℕ) (c : Clause) → IsSequence v l → j < length l → ¬ Comp (element l j) w c ±0) → includes_f v w ≡ gives §11·1·6-2 (one (truth false))
includes_else (one s) w n = refl
includes_else (sequence l) w n = rw (reflects_true (all_missed l w) (λ j b q. let k = such_zero q in n l j k.0 is_sequence b k.1))

includes_only : {v w r : Value} {c : Clause} → Includes v w c r → includes_f v w ≡ gives c r
includes_only {w} (includes_1 {l} {j} is_sequence b h) = rw (reflects_false (all_missed l w) (λ n. n j b (such h refl)))
includes_only {v} {w} (includes_2 n) = includes_else v w n

-- ---- max and min

abbrev pub bestb : Extreme → List Scalar → ℕ → Bool
bestb e l i = ltb i (length l) && (Bool.not (is_unknown (element l i)) && allb (length l) (λ j. suchb (fineb e) (comp_s (kind_s (get_or l i unknown)) (kind_s (get_or l j unknown)))))

pub unknown_reflects : (v : Value) → Reflects (IsUnknown v) (is_unknown v)
unknown_reflects (one unknown) = of_yes is-unknown
unknown_reflects (one (truth b)) = of_no (λ h. elim h [ ])
unknown_reflects (one (integer n)) = of_no (λ h. elim h [ ])
unknown_reflects (one (real n)) = of_no (λ h. elim h [ ])
unknown_reflects (one (text s)) = of_no (λ h. elim h [ ])
unknown_reflects (sequence l) = of_no (λ h. elim h [ ])

pub best_reflects : (e : Extreme) (l : List Scalar) (i : ℕ) → Reflects (Best e l i) (bestb e l i)
best_reflects e l i = go (ltb i (length l)) (is_unknown (element l i)) (allb (length l) test) (less_reflects i (length l)) (unknown_reflects (element l i)) (all_reflects (λ (j : ℕ). Unbeaten e (element l i) (element l j)) test (length l) (λ j. above_reflects e (get_or l i unknown) (get_or l j unknown)))
  where
    test : ℕ → Bool
    test j = suchb (fineb e) (comp_s (kind_s (get_or l i unknown)) (kind_s (get_or l j unknown)))

    go : (a b c : Bool) → Reflects (i < length l) a → Reflects (IsUnknown (element l i)) b → Reflects ((j : ℕ) → j < length l → Unbeaten e (element l i) (element l j)) c → Reflects (Best e l i) (a && (Bool.not b && c))
    go a b c (of_no n) y z = of_no (λ h. n h.inside)
    go a b c (of_yes x) (of_yes u) z = of_no (λ h. h.known u)
    go a b c (of_yes x) (of_no u) (of_no n) = of_no (λ h. n h.best)
    go a b c (of_yes x) (of_no u) (of_yes f) = of_yes (record { inside = x; known = u; best = f })

abbrev pub best_value : Extreme → List Scalar → Option ℕ → Answer Clause
best_value e l (some i) = gives (clause_1 e) (element l i)
best_value e l none = gives (clause_2 e) (one unknown)

abbrev pub extreme_f : Extreme → Value → Answer Clause
extreme_f e (one s) = gives (clause_2 e) (one unknown)
extreme_f e (sequence l) = best_value e l (firstb (length l) (bestb e l))

extreme_else : (e : Extreme) (v : Value) → ((l : List Scalar) (i : ℕ) → IsSequence v l → ¬ Best e l i) → extreme_f e v ≡ gives (clause_2 e) (one unknown)
extreme_else e (one s) n = refl
extreme_else e (sequence l) n = ap (best_value e l) (first_none (first_of (Best e l) (bestb e l) (best_reflects e l) (length l)) (λ i. n l i is_sequence))

extreme_only : {e : Extreme} {v r : Value} {c : Clause} → Extremal e v c r → extreme_f e v ≡ gives c r
extreme_only {e} (extremal_1 {l} {i} is_sequence h n) = ap (best_value e l) (first_same (first_of (Best e l) (bestb e l) (best_reflects e l) (length l)) h.inside h n)
extreme_only {e} {v} (extremal_2 n) = extreme_else e v n

-- ---- nth

abbrev pub at : List Scalar → ℤ → Answer Clause
at l (pos zero) = gives §11·2·9-2 (one unknown)
at l (pos (suc i)) = cond (ltb i (length l)) (gives §11·2·9-1 (element l i)) (gives §11·2·9-2 (one unknown))
at l (negsuc n) = gives §11·2·9-2 (one unknown)

abbrev pub nth_l : Value → List Scalar → Answer Clause
nth_l (one unknown) l = gives §11·2·9-2 (one unknown)
nth_l (one (truth b)) l = gives §11·2·9-2 (one unknown)
nth_l (one (integer n)) l = at l n
nth_l (one (real n)) l = gives §11·2·9-2 (one unknown)
nth_l (one (text s)) l = gives §11·2·9-2 (one unknown)
nth_l (sequence m) l = gives §11·2·9-2 (one unknown)

abbrev pub nth_f : Value → Value → Answer Clause
nth_f v (one s) = gives §11·2·9-2 (one unknown)
nth_f v (sequence l) = nth_l v l

at_else : (l : List Scalar) (n : ℤ) → ((i : ℕ) → n ≡ pos (suc i) → ¬ (i < length l)) → at l n ≡ gives §11·2·9-2 (one unknown)
at_else l (pos zero) h = refl
at_else l (pos (suc i)) h = rw (le-ltb i (length l) (let k = h i refl in let z : length l ≤ i = omega arith in z))
at_else l (negsuc n) h = refl

is_of : {n : ℤ} {m : ℤ} → n ≡ m → IsInteger (one (integer n)) m
is_of {n} e = subst (IsInteger (one (integer n))) e is_integer

nth_else : (v w : Value) → ((l : List Scalar) (i : ℕ) → IsSequence w l → IsInteger v (pos (suc i)) → ¬ (i < length l)) → nth_f v w ≡ gives §11·2·9-2 (one unknown)
nth_else v (one s) h = refl
nth_else (one unknown) (sequence l) h = refl
nth_else (one (truth b)) (sequence l) h = refl
nth_else (one (integer n)) (sequence l) h = at_else l n (λ i e. h l i is_sequence (is_of e))
nth_else (one (real n)) (sequence l) h = refl
nth_else (one (text s)) (sequence l) h = refl
nth_else (sequence m) (sequence l) h = refl

nth_only : {v w r : Value} {c : Clause} → Nth v w c r → nth_f v w ≡ gives c r
nth_only (nth_1 {l} {i} is_sequence is_integer b) = rw (lt-ltb i (length l) b)
nth_only {v} {w} (nth_2 n) = nth_else v w n

-- ---- operators by their number of operands

abbrev pub compared_by : Comparison → Verdict → Answer Clause
compared_by o (got c s) = gives c (one (truth (table o s)))
compared_by o stuck = fails

abbrev pub on_one : (Value → Answer Clause) → List Value → Answer Clause
on_one f [] = fails
on_one f (u ∷ []) = f u
on_one f (u ∷ v ∷ l) = fails

abbrev pub on_two : (Value → Value → Answer Clause) → List Value → Answer Clause
on_two f [] = fails
on_two f (u ∷ []) = fails
on_two f (u ∷ v ∷ []) = f u v
on_two f (u ∷ v ∷ w ∷ l) = fails

abbrev pub on_three : (Value → Value → Value → Answer Clause) → List Value → Answer Clause
on_three f [] = fails
on_three f (u ∷ []) = fails
on_three f (u ∷ v ∷ []) = fails
on_three f (u ∷ v ∷ w ∷ []) = f u v w
on_three f (u ∷ v ∷ w ∷ x ∷ l) = fails

-- ---- the four states

abbrev pub same_state : TaskState → Option TaskState → Bool
same_state s none = false
same_state s (some r) = elim (TaskState-discrete r s) [ yes e ↦ true | no n ↦ false ]

state_reflects : (o : Option TaskState) (s : TaskState) → Reflects (o ≡ some s) (same_state s o)
state_reflects none s = of_no (λ e. no_clash (cc))
state_reflects (some r) s = go (TaskState-discrete r s)
  where
    go : (d : Dec (r ≡ s)) → Reflects (some r ≡ some s) (elim d [ yes e ↦ true | no n ↦ false ])
    go (yes e) = of_yes (ap some e)
    go (no n) = of_no (λ e. n (cc))

abbrev pub task_state : Option Task → Option TaskState
task_state none = none
task_state (some t) = t.state

module _ (τ : View) (T : ℕ) where
  abbrev pub inb : TaskState → ℕ → Bool
  inb s c = same_state s (task_state (at_f τ.tasks c))

  pub in_reflects : (c : ℕ) (s : TaskState) → Reflects (InState τ c s) (inb s c)
  in_reflects c s = go (at_f τ.tasks c) refl
    where
      told : {t u : Task} → at_f τ.tasks c ≡ some t → At τ.tasks c u → u.state ≡ some s → t.state ≡ some s
      told {t} {u} e h k = let f : u ≡ t = cc (at_only h) in subst (λ (x : Task). x.state ≡ some s) f k

      go : (o : Option Task) → at_f τ.tasks c ≡ o → Reflects (InState τ c s) (same_state s (task_state o))
      go none e = of_no (λ h. let k = at_only h.at in no_clash (cc))
      go (some t) e = reflects_iff (λ h. record { task = t; at = at_has τ.tasks c e; row = h }) (λ h. told e h.at h.row) (state_reflects t.state s)

  abbrev pub state_f : TaskState → Option ℕ → Answer Clause
  state_f s none = gives §11·2·10-1 (one unknown)
  state_f s (some c) = cond (inb s c) (gives §11·2·10-2 (one (truth true))) (gives §11·2·10-3 (one (truth false)))

  abbrev pub is_in_f : TaskState → Value → Answer Clause
  is_in_f s (one unknown) = state_f s none
  is_in_f s (one (truth b)) = fails
  is_in_f s (one (integer n)) = fails
  is_in_f s (one (real n)) = fails
  is_in_f s (one (text a)) = state_f s (resolve_task_f τ T a)
  is_in_f s (sequence l) = fails

  abbrev pub run : Op → List Value → Answer Clause
  run (arithmetic o) vs = on_two (λ v w. arith_f o (summand v) (summand w)) vs
  run divide vs = on_two (λ v w. over (term v) (term w)) vs
  run (compare o) vs = on_two (λ v w. compared_by o (comp_f v w)) vs
  run and vs = on_two and_f vs
  run or vs = on_two or_f vs
  run includes vs = on_two includes_f vs
  run oneof vs = on_two (λ v w. includes_f w v) vs
  run if vs = on_three if_f vs
  run negate vs = on_one negate_f vs
  run isknown vs = on_one isknown_f vs
  run not vs = on_one not_f vs
  run count vs = on_one count_f vs
  run sum vs = on_one sum_f vs
  run (extreme e) vs = on_one (extreme_f e) vs
  run nth vs = on_two nth_f vs
  run (is-in s) vs = on_one (is_in_f s) vs
  run (no_such n) vs = fails

  resolved_only : Apart τ → (s : TaskState) {v : Value} {c : Option ℕ} → Resolved τ T v c → is_in_f s v ≡ state_f s c
  resolved_only apart s (by_text {s = a} h) = ap (state_f s) (task_same τ T a (task_fits τ T a apart) h).value
  resolved_only apart s by_unknown = refl

  is_in_only : Apart τ → {s : TaskState} {v r : Value} {c : Clause} → IsIn τ T s v c r → is_in_f s v ≡ gives c r
  is_in_only apart {s} (is_in_1 h) = resolved_only apart s h
  is_in_only apart {s} (is_in_2 {c} h e) = resolved_only apart s h ∙ rw (reflects_true (in_reflects c s) e)
  is_in_only apart {s} (is_in_3 {c} h n) = resolved_only apart s h ∙ rw (reflects_false (in_reflects c s) n)

  compare_only : {o : Comparison} {v w r : Value} {c : Clause} → Compare o v w c r → compared_by o (comp_f v w) ≡ gives c r
  compare_only {o} (compared h) = ap (compared_by o) (comp_only h)

  -- the clause that fits is the function's
  pub F-only : Apart τ → {o : Op} {vs : List Value} {r : Value} {c : Clause} → F τ T o vs c r → run o vs ≡ gives c r
  F-only apart (F-arithmetic h) = arith_only h
  F-only apart (F-divide h) = divide_only h
  F-only apart (F-compare h) = compare_only h
  F-only apart (F-and h) = and_only h
  F-only apart (F-or h) = or_only h
  F-only apart (F-includes h) = includes_only h
  F-only apart (F-oneof h) = includes_only h
  F-only apart (F-if h) = if_only h
  F-only apart (F-negate h) = negate_only h
  F-only apart (F-isknown h) = isknown_only h
  F-only apart (F-not h) = not_only h
  F-only apart (F-count h) = count_only h
  F-only apart (F-sum h) = sum_only h
  F-only apart (F-extreme h) = extreme_only h
  F-only apart (F-nth h) = nth_only h
  F-only apart (F-is-in h) = is_in_only apart h

  pub F-one : Apart τ → {o : Op} {vs : List Value} {r s : Value} {c d : Clause} → F τ T o vs c r → F τ T o vs d s → Same c r d s
  F-one apart {o} {vs} h k = same_answer (run o vs) (F-only apart h) (F-only apart k)
