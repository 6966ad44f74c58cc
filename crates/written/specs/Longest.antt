-- No answer is longer than a buffer of 1,024 bytes holds, where its value is within the limits. By the longest scalar, 48 bytes, and 16 of them.
use Rattle.std.specs.Prelude.{◌≡◌, refl, Bool, true, false, List, ℕ, zero, suc, ◌+◌, ◌*◌, ◌/◌, ◌≤◌, ltb, ℤ, pos, negsuc, length}
use Rattle.std.proofs.Common.{arith, length-append}
use Rattle.paper_expressions.specs.Bytes.{bytes}
use Rattle.paper_expressions.specs.Limits.{text_limit}
use Rattle.paper_expressions.specs.Types.{Ty, Text, Integer, Real, SetofText, SetofReal, SetofInteger, SetofAnything, TruthValue}
use Rattle.paper_expressions.specs.Values.{Scalar, Value}
use Rattle.paper_expressions.proofs.Laws.WithinLimits.{Small, unknown_small, truth_small, integer_small, real_small, text_small, EachSmall, none_small, more_small, Limited, one_limited, list_limited}
use Rattle.written.specs.Limit.{answer_limit}
use Rattle.paper_guideline.specs.Line.{refused, gives, type_name, digits_in, digits_of, with_sign, with_point, scalar_written, more_written, value_written, answer_written}

-- ---- numbers

at_most : (n m : ℕ) → length (digits_in n m) ≤ n
at_most zero m = omega arith
at_most (suc n) m = go (ltb m 10) refl (at_most n (m / 10))
  where
    go : (t : Bool) → ltb m 10 ≡ t → length (digits_in n (m / 10)) ≤ n → length (digits_in (suc n) m) ≤ suc n
    go true e h = simp e (omega arith)
    go false e h = simp (e, length-append) (omega arith)

pub longest_number : (m : ℕ) → length (digits_of m) ≤ 20
longest_number m = at_most 20 m

pointed : (m : ℕ) → length (with_point m) ≤ 24
pointed m = simp length-append (omega (arith, longest_number (m / 1000)))

signed : (f : ℕ → List ℕ) (k : ℕ) → ((m : ℕ) → length (f m) ≤ k) → (z : ℤ) → length (with_sign f z) ≤ suc k
signed f k h (pos n) = omega (arith, h n)
signed f k h (negsuc n) = omega (arith, h (suc n))

pub longest_integer : (z : ℤ) → length (with_sign digits_of z) ≤ 21
longest_integer z = signed digits_of 20 longest_number z

pub longest_real : (z : ℤ) → length (with_sign with_point z) ≤ 25
longest_real z = signed with_point 24 pointed z

-- ---- values

longest_scalar : {s : Scalar} → Small s → length (scalar_written s) ≤ text_limit
longest_scalar unknown_small = omega arith
longest_scalar (truth_small {b = true}) = omega arith
longest_scalar (truth_small {b = false}) = omega arith
longest_scalar (integer_small {n} i) = omega (arith, longest_integer n)
longest_scalar (real_small {n} i) = omega (arith, longest_real n)
longest_scalar (text_small h) = h

longest_more : {l : List Scalar} → EachSmall l → length (more_written l) ≤ length l * 50 + 1
longest_more none_small = omega arith
longest_more (more_small h k) = simp length-append (omega (arith, longest_scalar h, longest_more k))

longest_value : {v : Value} → Limited v → length (value_written v) ≤ 802
longest_value (one_limited h) = omega (arith, longest_scalar h)
longest_value (list_limited n none_small) = omega arith
longest_value (list_limited n (more_small h k)) = simp length-append (omega (arith, longest_scalar h, longest_more k))

-- ---- answers

longest_name : (t : Ty) → length (bytes (type_name t)) ≤ 14
longest_name Text = omega arith
longest_name Integer = omega arith
longest_name Real = omega arith
longest_name SetofText = omega arith
longest_name SetofReal = omega arith
longest_name SetofInteger = omega arith
longest_name SetofAnything = omega arith
longest_name TruthValue = omega arith

pub longest_refusal : (n : ℕ) → length (answer_written (refused n)) ≤ answer_limit
longest_refusal n = simp length-append (omega (arith, longest_number n))

pub longest_answer : (t : Ty) {v : Value} → Limited v → length (answer_written (gives t v)) ≤ answer_limit
longest_answer t h = simp length-append (omega (arith, longest_name t, longest_value h))
