-- Law: whatever value the contract of `extreme` allows for min, of a list of numbers and unknowns, is the minimum: unknown or one of
-- them, no known one below it, and unknown only if none is known. Some clause fits every list, so the contract speaks of a value.
use Rattle.std.specs.Prelude.{◌≡◌, List, [], ◌∷◌, ℕ, ◌<◌, length}
use Rattle.std.proofs.Common.{sym, subst}
use Rattle.std.proofs.Math.Option.{Option}
use Rattle.paper_expressions.specs.Values.{Scalar, Value, sequence, IsSequence, is_sequence}
use Rattle.paper_expressions.specs.Clauses.{Clause}
use Rattle.paper_expressions.specs.Operators.{Extreme, min, extreme, Best, Extremal, extremal_1, extremal_2, F, F-extreme}
use Rattle.paper_expressions.proofs.Laws.Search.{FirstOf, first_is, no_first, first_of, firstb}
use Rattle.paper_expressions.proofs.Laws.Only.{bestb, best_reflects}
use Rattle.paper_expressions.proofs.Laws.Minimum.{NumbersAndUnknowns, Minimum, minimum}
use Rattle.values.specs.declared.value.Value as Code
use Rattle.values.specs.Meaning.{meaning_v}
use Rattle.operators.specs.Means.{Means}
use Rattle.operators.specs.Comes.{nowhere}

pub record Extremed (e : Extreme) (l : List Scalar) : Type 0 where
  pub clause : Clause
  pub value : Value
  pub fits : Extremal e (sequence l) clause value

not_best : (e : Extreme) (l : List Scalar) → ((i : ℕ) → i < length l → ¬ Best e l i) → (m : List Scalar) (i : ℕ) → IsSequence (sequence l) m → ¬ Best e m i
not_best e l g m i is_sequence b = g i b.inside b

extremed : (e : Extreme) (l : List Scalar) → Extremed e l
extremed e l = go (firstb (length l) (bestb e l)) (first_of (Best e l) (bestb e l) (best_reflects e l) (length l))
  where
    go : (o : Option ℕ) → FirstOf (Best e l) (length l) o → Extremed e l
    go o (first_is h b g) = record { clause = _; value = _; fits = extremal_1 is_sequence b g }
    go o (no_first g) = record { clause = _; value = _; fits = extremal_2 (not_best e l g) }

pub least : (bs : List ℕ) (a r : Code.Value) (l : List Scalar) → Means bs (extreme min) (a ∷ []) r → meaning_v bs a ≡ sequence l
    → NumbersAndUnknowns l → Minimum l (meaning_v bs r)
unfolding Means
least bs a r l h e n =
    let x = extremed min l in
    let f : F nowhere 0 (extreme min) (meaning_v bs a ∷ []) x.clause x.value =
    F-extreme (subst (λ (v : Value). Extremal min v x.clause x.value) (sym e) x.fits) in
    subst (Minimum l) (sym (h nowhere 0 x.clause x.value f)) (minimum n x.fits)
