-- Which answers tell of a row. Definitions only.
use Rattle.std.specs.Prelude.{Bool, true, false}
use Rattle.row_shown.specs.declared.Shown.{Shown}
use Rattle.row_shown.specs.declared.Shown.TheVariants.{NoRow, There, OfValue, OfState, OfClass, OfType, OfTime, OfComponent, Refused}

abbrev pub there_is : Shown → Bool
there_is NoRow = false
there_is There = true
there_is OfValue = true
there_is (OfState n) = true
there_is (OfClass n) = true
there_is (OfType n) = true
there_is (OfTime n) = true
there_is (OfComponent k n) = true
there_is (Refused n) = false
