-- `number`: from every place passed the number and the end are the same.
use Rattle.std.proofs.Common.{◌≡◌, ◌≤◌, drop}
use Rattle.typed_value.specs.Lexemes.{past, digitb}
use Rattle.commands.specs.Times.{digits_of_fn}
use Rattle.commands.proofs.times.number.Given as goal

abbrev pub invariant-loop-next : goal.invariant-loop-next
invariant-loop-next l = record {
  small : l.value ≤ 100000000000;
  same_number : digits_of_fn 0 (drop l.at l.s) ≡ digits_of_fn l.value (drop l.next l.s);
  same_end : past digitb l.s l.at ≡ past digitb l.s l.next;
}
