-- The tests on a scalar that truth values ask, as functions. Definitions only.
use Rattle.std.specs.Prelude.{Bool, false, not}
use Rattle.values.specs.declared.scalar.Scalar.{Scalar}
use Rattle.values.specs.declared.scalar.Scalar.TheVariants.{Unknown, Truth, Int, Real, Text}

abbrev pub true_c : Scalar → Bool
true_c Unknown = false
true_c (Truth b) = b
true_c (Int n) = false
true_c (Real n) = false
true_c (Text h) = false

abbrev pub false_c : Scalar → Bool
false_c Unknown = false
false_c (Truth b) = not b
false_c (Int n) = false
false_c (Real n) = false
false_c (Text h) = false
