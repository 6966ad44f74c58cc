-- What it is for a value of the code to be what an operator gives: whatever clause of section 11 fits the operands, the value means what
-- that clause gives. Definitions only.
use Rattle.std.specs.Prelude.{◌≡◌, List, map, ℕ}
use Rattle.paper_expressions.specs.Values as paper
use Rattle.paper_expressions.specs.Clauses.{Clause}
use Rattle.paper_expressions.specs.View.{View}
use Rattle.paper_expressions.specs.Operators as section-11
use Rattle.paper_expressions.specs.Operators.{Op, F}
use Rattle.values.specs.declared.value.Value.{Value}
use Rattle.values.specs.Meaning.{meaning_v}
use Rattle.operators.specs.declared.operator.Arithmetic as A
use Rattle.operators.specs.declared.operator.Arithmetic.TheVariants.{Plus, Minus, Times}
use Rattle.operators.specs.declared.operator.Comparison as C
use Rattle.operators.specs.declared.operator.Comparison.TheVariants.{Greater, Less, GreaterOrEqual, LessOrEqual, Equal, NotEqual}
use Rattle.operators.specs.declared.operator.Extreme as E
use Rattle.operators.specs.declared.operator.Extreme.TheVariants.{Max, Min}

-- the operands' values, where bs are the lent bytes
abbrev pub meanings : List ℕ → List Value → List paper.Value
meanings bs vs = map (meaning_v bs) vs

-- r is what the operator o gives for the operands vs
unfoldable pub Means : List ℕ → Op → List Value → Value → Type 0
Means bs o vs r = (τ : View) (T : ℕ) (c : Clause) (v : paper.Value) → F τ T o (meanings bs vs) c v → meaning_v bs r ≡ v

-- ---- the families

abbrev pub operation : A.Arithmetic → section-11.Arithmetic
operation Plus = section-11.plus
operation Minus = section-11.minus
operation Times = section-11.times

abbrev pub relation : C.Comparison → section-11.Comparison
relation Greater = section-11.is>
relation Less = section-11.is<
relation GreaterOrEqual = section-11.is>=
relation LessOrEqual = section-11.is<=
relation Equal = section-11.is=
relation NotEqual = section-11.is!=

abbrev pub end : E.Extreme → section-11.Extreme
end Max = section-11.max
end Min = section-11.min
