-- `digits`: from every place passed the number and the end are the same.
use Rattle.std.proofs.Common.{◌≡◌, ◌≤◌, drop}
use Rattle.typed_value.specs.Lexemes.{past, digitb}
use Rattle.typed_value.specs.NumeralLaws.{counted}
use Rattle.typed_value.proofs.numerals.digits.Given as goal

abbrev pub invariant-loop-place : goal.invariant-loop-place
invariant-loop-place l = record {
  small : l.value ≤ 10000000000;
  same_number : counted 0 (drop l.at l.s) ≡ counted l.value (drop l.place l.s);
  same_end : past digitb l.s l.at ≡ past digitb l.s l.place;
}
