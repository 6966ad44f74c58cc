-- `digits`: before each turn the digits from p on, behind the number so far, write the number.
use Rattle.std.proofs.Common.{◌≡◌, ◌≤◌, ◌+◌, ◌-◌, length, drop}
use Rattle.script.specs.Lexemes.{digits_value, digits_long}
use Rattle.script.proofs.lexemes.digits.Given as goal

abbrev pub invariant-loop-p : goal.invariant-loop-p
invariant-loop-p l = record {
  value : digits_value l.n (drop l.p l.s) ≡ digits_value 0 (drop l.at l.s);
  place : l.p + digits_long (drop l.p l.s) ≡ l.at + digits_long (drop l.at l.s);
  far : l.p ≤ l.at + (length l.s - l.at);
}
