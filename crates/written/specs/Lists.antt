-- What is written of a list, element by element: a comma and a blank before each but the first.
use Rattle.std.specs.Prelude.{◌≡◌, List, ◌∷◌, ◌++◌, ℕ, suc, ◌+◌, ◌≤◌, ◌<◌, length, take, drop}
use Rattle.std.proofs.Common.{ap, ◌∙◌, arith, add-one, length-take, drop_of_length-le, drop-cons, get_or-take}
use Rattle.std.proofs.lemmas.List.{length-map}
use Rattle.std.proofs.Math.ListN.{get_or-map}
use Rattle.paper_expressions.specs.Bytes.{bytes}
use Rattle.paper_expressions.specs.Values.{Scalar, sequence}
use Rattle.paper_guideline.specs.Line.{scalar_written, more_written, value_written}
use Rattle.values.specs.Meaning.{held, meaning, meaning_l, size_of, at, cell}
use Rattle.values.specs.declared.scalar.Scalar.TheVariants.{Unknown}
use Rattle.values.specs.declared.list.List as Code

-- a comma, a blank and the i-th element
abbrev pub element_written : List ℕ → Code.List → ℕ → List ℕ
element_written bs l i = bytes ", " ++ scalar_written (meaning bs (at l.items i))

module _ (bs : List ℕ) (l : Code.List) where
  pub as_many : length (meaning_l bs l) ≡ size_of l
  as_many = length-map (take l.n l.items) (held bs)

  pub element-at : (i : ℕ) → i < size_of l → drop i (meaning_l bs l) ≡ meaning bs (at l.items i) ∷ drop (suc i) (meaning_l bs l)
  element-at i h =
      let n = length-take l.n l.items in
      let m = as_many in
      drop-cons (meaning_l bs l) i (meaning bs Unknown) (omega arith)
      ∙ ap (λ (s : Scalar). s ∷ drop (suc i) (meaning_l bs l))
      (get_or-map (held bs) (take l.n l.items) i (cell Unknown) ∙ ap (held bs) (get_or-take l.n l.items i (cell Unknown) (omega arith)))

  pub more_step : (i : ℕ) → i < size_of l → more_written (drop i (meaning_l bs l)) ≡ element_written bs l i ++ more_written (drop (i + 1) (meaning_l bs l))
  more_step i h = rw (add-one, element-at i h)

  pub more_end : (i : ℕ) → size_of l ≤ i → more_written (drop i (meaning_l bs l)) ≡ bytes "]"
  more_end i h = let m = as_many in let k : length (meaning_l bs l) ≤ i = omega arith in rw (drop_of_length-le (meaning_l bs l) k)

  pub list_none : size_of l ≡ 0 → value_written (sequence (meaning_l bs l)) ≡ bytes "[]"
  list_none h = let m = as_many in let k : length (meaning_l bs l) ≤ 0 = omega arith in ap (λ (w : List Scalar). value_written (sequence w)) (drop_of_length-le (meaning_l bs l) k)

  pub list_some : 0 < size_of l → value_written (sequence (meaning_l bs l)) ≡ bytes "[" ++ scalar_written (meaning bs (at l.items 0)) ++ more_written (drop 1 (meaning_l bs l))
  list_some h = ap (λ (w : List Scalar). value_written (sequence w)) (element-at 0 h)
