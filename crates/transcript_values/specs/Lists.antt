-- What is written of a list, element by element: a comma before each but the first.
use Rattle.std.specs.Prelude.{◌≡◌, List, ◌++◌, ℕ, ◌+◌, ◌≤◌, ◌<◌, length, drop}
use Rattle.std.proofs.Common.{ap, arith, add-one, drop_of_length-le}
use Rattle.paper_expressions.specs.Bytes.{bytes}
use Rattle.paper_expressions.specs.Values.{Scalar, sequence}
use Rattle.values.specs.Meaning.{meaning, meaning_l, size_of, at}
use Rattle.values.specs.declared.list.List as Code
use Rattle.written.specs.Lists.{as_many, element-at}
use Rattle.transcript_values.specs.Literals.{scalar_literal, more_literal, value_literal}

-- a comma and the i-th element
abbrev pub element_literal : List ℕ → Code.List → ℕ → List ℕ
element_literal bs l i = bytes "," ++ scalar_literal (meaning bs (at l.items i))

module _ (bs : List ℕ) (l : Code.List) where
  pub more_step : (i : ℕ) → i < size_of l → more_literal (drop i (meaning_l bs l)) ≡ element_literal bs l i ++ more_literal (drop (i + 1) (meaning_l bs l))
  more_step i h = rw (add-one, element-at bs l i h)

  pub more_end : (i : ℕ) → size_of l ≤ i → more_literal (drop i (meaning_l bs l)) ≡ bytes ")"
  more_end i h = let m = as_many bs l in let k : length (meaning_l bs l) ≤ i = omega arith in rw (drop_of_length-le (meaning_l bs l) k)

  pub list_none : size_of l ≡ 0 → value_literal (sequence (meaning_l bs l)) ≡ bytes "l()"
  list_none h = let m = as_many bs l in let k : length (meaning_l bs l) ≤ 0 = omega arith in ap (λ (w : List Scalar). value_literal (sequence w)) (drop_of_length-le (meaning_l bs l) k)

  pub list_some : 0 < size_of l → value_literal (sequence (meaning_l bs l)) ≡ bytes "l(" ++ scalar_literal (meaning bs (at l.items 0)) ++ more_literal (drop 1 (meaning_l bs l))
  list_some h = ap (λ (w : List Scalar). value_literal (sequence w)) (element-at bs l 0 h)
