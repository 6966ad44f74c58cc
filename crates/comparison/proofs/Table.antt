-- The comparison operators: the code's row of the table is the definitions', by what comp comes to.
use mathlib.Core.Path.{◌≡◌, refl, sym, ap, ◌∙◌}
use mathlib.Core.Bool.{Bool}
use mathlib.Core.List.{List, [], ◌∷◌}
use Prim.Native.Nat.{ℕ}
use Rattle.paper_expressions.specs.Values.{truth, one}
use Rattle.paper_expressions.specs.Operators as section-11
use Rattle.paper_expressions.specs.Operators.{+1, -1, ±0, ±?}
use Rattle.paper_expressions.proofs.Laws.Compare.{Verdict, got, stuck, comp_f, table_of_unknown}
use Rattle.paper_expressions.proofs.Laws.Only.{compared_by}
use Rattle.numbers.specs.declared.sign.Sign.{Sign}
use Rattle.numbers.specs.Signs.{verdict}
use Rattle.values.specs.declared.scalar.Scalar.{Scalar}
use Rattle.values.specs.declared.value.Value as Code
use Rattle.values.specs.Meaning.{meaning, meaning_v}
use Rattle.operators.specs.declared.operator.Comparison.{Comparison}
use Rattle.operators.specs.Means.{relation, meanings}
use Rattle.operators.specs.Comes.{given, comes}
use Rattle.comparison.specs.Rows.{row_c}

by_verdict : (bs : List ℕ) (o : Comparison) (v : Verdict) → one (meaning bs (row_c o (verdict v))) ≡ given (compared_by (relation o) v)
by_verdict bs o (got c +1) = refl
by_verdict bs o (got c -1) = refl
by_verdict bs o (got c ±0) = refl
by_verdict bs o (got c ±?) = ap (λ (b : Bool). one (truth b)) (sym (table_of_unknown (relation o)))
by_verdict bs o stuck = refl

pub compare_comes : (bs : List ℕ) (o : Comparison) (a b : Code.Value) {s : Scalar} {g : Sign} → s ≡ row_c o g
    → g ≡ verdict (comp_f (meaning_v bs a) (meaning_v bs b)) → one (meaning bs s) ≡ comes (section-11.compare (relation o)) (meanings bs (a ∷ b ∷ []))
compare_comes bs o a b e f =
    ap (λ (x : Scalar). one (meaning bs x)) (e ∙ ap (row_c o) f) ∙ by_verdict bs o (comp_f (meaning_v bs a) (meaning_v bs b))
