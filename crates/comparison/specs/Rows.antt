-- The table of the comparison operators (11.1.3): the columns 1, -1 and 0; unknown is false, and where no clause of comp fits there is no
-- answer. Definitions only.
use Rattle.std.specs.Prelude.{Bool, false}
use Rattle.paper_expressions.specs.Operators.{table, +1, -1, ±0}
use Rattle.numbers.specs.declared.sign.Sign as S
use Rattle.values.specs.declared.scalar.Scalar.{Scalar}
use Rattle.values.specs.declared.scalar.Scalar.TheVariants.{Unknown, Truth}
use Rattle.operators.specs.declared.operator.Comparison.{Comparison}
use Rattle.operators.specs.Means.{relation}

abbrev pub columns_c : Bool → Bool → Bool → S.Sign → Scalar
columns_c up down level S.TheVariants.Greater = Truth up
columns_c up down level S.TheVariants.Less = Truth down
columns_c up down level S.TheVariants.Equal = Truth level
columns_c up down level S.TheVariants.Unknown = Truth false
columns_c up down level S.TheVariants.Unfit = Unknown

abbrev pub row_c : Comparison → S.Sign → Scalar
row_c o s = columns_c (table (relation o) +1) (table (relation o) -1) (table (relation o) ±0) s
