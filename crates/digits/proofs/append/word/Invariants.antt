-- `word`: after as many turns the first bytes are appended.
use Rattle.std.proofs.Common.{take}
use Rattle.digits.specs.Appends.{Appends}
use Rattle.digits.proofs.append.word.Given as goal

abbrev pub invariant-loop-b : goal.invariant-loop-b
invariant-loop-b l = Appends l.initial.out l.out l.o l.p (take l.b-index l.w)
