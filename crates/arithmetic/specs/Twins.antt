-- The code's private functions, as functions: what they answer for every scalar, fitting or not. Definitions only.
use Rattle.std.specs.Prelude.{cond, ℤ, pos, ◌+ℤ◌, ◌-ℤ◌, ◌*ℤ◌}
use Rattle.paper_expressions.specs.Values.{unit}
use Rattle.paper_expressions.specs.Operators.{whole, decimal, quotient}
use Rattle.paper_expressions.proofs.Laws.Only.{zero_z}
use Rattle.numbers.specs.declared.number.Num.{Num}
use Rattle.values.specs.declared.scalar.Scalar.{Scalar}
use Rattle.values.specs.declared.scalar.Scalar.TheVariants.{Unknown, Truth, Int, Real, Text}
use Rattle.values.specs.Meaning.{integer_of, real_of_fn}
use Rattle.operators.specs.declared.operator.Arithmetic.{Arithmetic}
use Rattle.operators.specs.declared.operator.Arithmetic.TheVariants.{Plus, Minus, Times}
use Rattle.operators.specs.Means.{operation}

abbrev pub combined : Arithmetic → ℤ → ℤ → ℤ → ℤ
combined Plus x y p = x +ℤ y
combined Minus x y p = x -ℤ y
combined Times x y p = p

abbrev pub with_int : Arithmetic → Num → Scalar → Scalar
with_int o x Unknown = Unknown
with_int o x (Truth b) = Unknown
with_int o x (Int y) = integer_of (whole (operation o) x.z y.z)
with_int o x (Real y) = real_of_fn (decimal (operation o) (x.z *ℤ unit) y.z)
with_int o x (Text h) = Unknown

abbrev pub with_real : Arithmetic → Num → Scalar → Scalar
with_real o x Unknown = Unknown
with_real o x (Truth b) = Unknown
with_real o x (Int y) = real_of_fn (decimal (operation o) x.z (y.z *ℤ unit))
with_real o x (Real y) = real_of_fn (decimal (operation o) x.z y.z)
with_real o x (Text h) = Unknown

abbrev pub arith_c : Arithmetic → Scalar → Scalar → Scalar
arith_c o Unknown b = Unknown
arith_c o (Truth t) b = Unknown
arith_c o (Int x) b = with_int o x b
arith_c o (Real x) b = with_real o x b
arith_c o (Text h) b = Unknown

abbrev pub quotient_c : ℤ → ℤ → Scalar
quotient_c x y = cond (zero_z y) Unknown (real_of_fn (quotient x y))

abbrev pub divide_by : ℤ → Scalar → Scalar
divide_by x Unknown = Unknown
divide_by x (Truth b) = Unknown
divide_by x (Int y) = quotient_c x (y.z *ℤ unit)
divide_by x (Real y) = quotient_c x y.z
divide_by x (Text h) = Unknown

abbrev pub divide_c : Scalar → Scalar → Scalar
divide_c Unknown b = Unknown
divide_c (Truth t) b = Unknown
divide_c (Int x) b = divide_by (x.z *ℤ unit) b
divide_c (Real x) b = divide_by x.z b
divide_c (Text h) b = Unknown

abbrev pub negate_c : Scalar → Scalar
negate_c Unknown = Unknown
negate_c (Truth t) = Unknown
negate_c (Int n) = integer_of (pos 0 -ℤ n.z)
negate_c (Real n) = real_of_fn (pos 0 -ℤ n.z)
negate_c (Text h) = Unknown
