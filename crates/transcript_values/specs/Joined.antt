-- What a literal has of a value is what its notation writes.
use Rattle.std.specs.Prelude.{◌≡◌, refl, List, [], ◌∷◌, ◌++◌, ℕ}
use Rattle.std.proofs.Common.{ap}
use Rattle.paper_expressions.specs.Bytes.{bytes}
use Rattle.paper_expressions.specs.Values.{Scalar, Value, one, sequence}
use Rattle.written.specs.Joined.{more_joined, value_joined}
use Rattle.transcript_values.specs.Literals.{scalar_literal, more_literal, value_literal}

pub more_same : (l : List Scalar) → more_literal l ≡ more_joined (bytes ",") (bytes ")") scalar_literal l
more_same [] = refl
more_same (s ∷ l) = ap (λ (w : List ℕ). bytes "," ++ scalar_literal s ++ w) (more_same l)

pub value_same : (v : Value) → value_literal v ≡ value_joined (bytes "l(") (bytes ",") (bytes ")") scalar_literal v
value_same (one s) = refl
value_same (sequence []) = refl
value_same (sequence (s ∷ l)) = ap (λ (w : List ℕ). bytes "l(" ++ scalar_literal s ++ w) (more_same l)
