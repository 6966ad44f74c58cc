-- Law: the minimum as an expression. The value of a typed min(E) is the minimum of the readings that E comes to: one of them, none known below it, and unknown only if none is known. By the law on lists, and the types of E.
use Rattle.std.specs.Prelude.{List, [], ◌∷◌, ℕ}
use Rattle.paper_expressions.specs.Values.{Scalar, unknown, Value, one, sequence, IsUnknown, is-unknown, integer_is, real_is, is_text}
use Rattle.paper_expressions.specs.Types.{Ty, Text, Integer, Real, unknown_of_any, integer-of, integer_counts_as_real, real_of, text_of, element_text, element_integer, element_real, EachOf, each_none, each_more, of_scalar, of_list}
use Rattle.paper_expressions.specs.Clauses.{Clause}
use Rattle.paper_expressions.specs.View.{View, Sound}
use Rattle.paper_expressions.specs.Operators.{◌⇒◌, min, Extremal, extremal_1, extremal_2, extreme, allowed, F-extreme}
use Rattle.paper_expressions.specs.Expressions.{Expr, Apply, ε, ◌▸◌, Among, here, there, HasType, rule_10}
use Rattle.paper_expressions.specs.Evaluation.{Evaluates, functor_form, values_none, values_more}
use Rattle.paper_expressions.proofs.Laws.Finds.{Fit, none_fit, one_fits}
use Rattle.paper_expressions.proofs.Laws.CallLaws.{operands_fit, values_fit}
use Rattle.paper_expressions.proofs.Laws.Minimum.{NumbersAndUnknowns, numeric_none, numeric_unknown, numeric_number, TextsAndUnknowns, textual_none, textual_unknown, textual_text, minimum, minimum_text}
pub use Rattle.paper_expressions.specs.Promises.{MinimumOf, of_readings, of_unknown}

integers : {l : List Scalar} → EachOf Integer l → NumbersAndUnknowns l
integers each_none = numeric_none
integers (each_more unknown_of_any h) = numeric_unknown (integers h)
integers (each_more integer-of h) = numeric_number integer_is (integers h)

reals : {l : List Scalar} → EachOf Real l → NumbersAndUnknowns l
reals each_none = numeric_none
reals (each_more unknown_of_any h) = numeric_unknown (reals h)
reals (each_more integer_counts_as_real h) = numeric_number integer_is (reals h)
reals (each_more real_of h) = numeric_number real_is (reals h)

texts : {l : List Scalar} → EachOf Text l → TextsAndUnknowns l
texts each_none = textual_none
texts (each_more unknown_of_any h) = textual_unknown (texts h)
texts (each_more text_of h) = textual_text is_text (texts h)

module _ (τ : View) (T : ℕ) where
  nothing : {e : Expr} {cs : List Clause} {c : Clause} {r : Value} → Evaluates τ T e cs (one unknown) → Extremal min (one unknown) c r → MinimumOf τ T e r
  nothing h (extremal_1 s b n) = elim s [ ]
  nothing h (extremal_2 n) = of_unknown h is-unknown

  of_value : {e : Expr} {cs : List Clause} {w r : Value} {c : Clause} {us : List Ty} {t : Ty} → Among (us ⇒ t) (allowed (extreme min)) → Fit (w ∷ []) us
      → Evaluates τ T e cs w → Extremal min w c r → MinimumOf τ T e r
  of_value here (one_fits (of_scalar unknown_of_any) none_fit) h x = nothing h x
  of_value here (one_fits (of_list element_integer k) none_fit) h x = of_readings h (minimum (integers k) x)
  of_value (there here) (one_fits (of_scalar unknown_of_any) none_fit) h x = nothing h x
  of_value (there here) (one_fits (of_list element_real k) none_fit) h x = of_readings h (minimum (reals k) x)
  of_value (there (there here)) (one_fits (of_scalar unknown_of_any) none_fit) h x = nothing h x
  of_value (there (there here)) (one_fits (of_list element_text k) none_fit) h x = of_readings h (minimum_text (texts k) x)
  of_value {e = e} {cs = cs} {w = w} {r = r} {c = c} {us = us} {t = t} (there (there (there x44))) _ h x = elim x44 [ ]

  pub minimum_of : Sound τ → {e : Expr} {t : Ty} {cs : List Clause} {r : Value} → HasType τ T (Apply (extreme min) (e ▸ ε)) t → Evaluates τ T (Apply (extreme min) (e ▸ ε)) cs r
      → MinimumOf τ T e r
  minimum_of sound (rule_10 hs a) (functor_form i (values_more h values_none) (F-extreme x) d) =
      let k = operands_fit τ T a (values_fit τ T sound hs (values_more h values_none)) in
      of_value k.1 k.2 h x
