-- What is written of a value in a notation: the words of its lists, and each scalar. Answers and literals are such.
use Rattle.std.specs.Prelude.{◌≡◌, refl, List, [], ◌∷◌, ◌++◌, ℕ, ◌+◌, ◌≤◌, ◌<◌, length, drop}
use Rattle.std.proofs.Common.{ap, arith, add-one, drop_of_length-le}
use Rattle.paper_expressions.specs.Bytes.{bytes}
use Rattle.paper_expressions.specs.Values.{Scalar, Value, one, sequence}
use Rattle.paper_guideline.specs.Line.{scalar_written, more_written, value_written}
use Rattle.values.specs.Meaning.{meaning, meaning_l, size_of, at}
use Rattle.values.specs.declared.list.List as Code
use Rattle.written.specs.Lists.{as_many, element-at}

-- the elements behind the first, each behind b, and then c
abbrev pub more_joined : List ℕ → List ℕ → (Scalar → List ℕ) → List Scalar → List ℕ
more_joined b c f [] = c
more_joined b c f (s ∷ l) = b ++ f s ++ more_joined b c f l

-- a whole list, behind a
abbrev pub list_joined : List ℕ → List ℕ → List ℕ → (Scalar → List ℕ) → List Scalar → List ℕ
list_joined a b c f [] = a ++ c
list_joined a b c f (s ∷ l) = a ++ f s ++ more_joined b c f l

abbrev pub value_joined : List ℕ → List ℕ → List ℕ → (Scalar → List ℕ) → Value → List ℕ
value_joined a b c f (one s) = f s
value_joined a b c f (sequence l) = list_joined a b c f l

module _ (bs : List ℕ) (l : Code.List) (a b c : List ℕ) (f : Scalar → List ℕ) where
  pub joined_step : (i : ℕ) → i < size_of l → more_joined b c f (drop i (meaning_l bs l)) ≡ b ++ f (meaning bs (at l.items i)) ++ more_joined b c f (drop (i + 1) (meaning_l bs l))
  joined_step i h = rw (add-one, element-at bs l i h)

  pub joined_end : (i : ℕ) → size_of l ≤ i → more_joined b c f (drop i (meaning_l bs l)) ≡ c
  joined_end i h = let m = as_many bs l in let k : length (meaning_l bs l) ≤ i = omega arith in rw (drop_of_length-le (meaning_l bs l) k)

  pub joined_none : size_of l ≡ 0 → list_joined a b c f (meaning_l bs l) ≡ a ++ c
  joined_none h = let m = as_many bs l in let k : length (meaning_l bs l) ≤ 0 = omega arith in ap (list_joined a b c f) (drop_of_length-le (meaning_l bs l) k)

  pub joined_some : 0 < size_of l → list_joined a b c f (meaning_l bs l) ≡ a ++ f (meaning bs (at l.items 0)) ++ more_joined b c f (drop 1 (meaning_l bs l))
  joined_some h = ap (list_joined a b c f) (element-at bs l 0 h)

-- ---- the values of answers

pub more_same : (l : List Scalar) → more_written l ≡ more_joined (bytes ", ") (bytes "]") scalar_written l
more_same [] = refl
more_same (s ∷ l) = ap (λ (w : List ℕ). bytes ", " ++ scalar_written s ++ w) (more_same l)

pub value_same : (v : Value) → value_written v ≡ value_joined (bytes "[") (bytes ", ") (bytes "]") scalar_written v
value_same (one s) = refl
value_same (sequence []) = refl
value_same (sequence (s ∷ l)) = ap (λ (w : List ℕ). bytes "[" ++ scalar_written s ++ w) (more_same l)
