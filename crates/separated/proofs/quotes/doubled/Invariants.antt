-- `doubled`: before each turn the bytes up to the index are appended.
use Rattle.std.proofs.Common.{take}
use Rattle.digits.specs.Appends.{Appends}
use Rattle.separated.specs.Quotes.{doubled}
use Rattle.separated.proofs.quotes.doubled.Given as goal

abbrev pub invariant-loop-b : goal.invariant-loop-b
invariant-loop-b l = Appends l.initial.out l.out l.o l.p (doubled (take l.b-index l.field))
