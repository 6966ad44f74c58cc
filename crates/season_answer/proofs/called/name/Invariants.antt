-- `name`: before each turn the bytes from the index on are left to append.
use Rattle.std.proofs.Common.{◌+◌, ◌-◌}
use Rattle.parts.specs.Texts.{cells}
use Rattle.digits.specs.AppendsLaws.{Begun}
use Rattle.season_answer.proofs.called.name.Given as goal

abbrev pub invariant-loop-i : goal.invariant-loop-i
invariant-loop-i l = Begun l.initial.out l.out l.o l.p (cells l.texts (l.x + l.i) (l.n - l.i)) (cells l.texts l.x l.n)
