-- `gather`: the rows passed are taken in.
use Rattle.gathering.specs.Gathered.{GatheredUpto}
use Rattle.gathering.proofs.gather.Given as goal

abbrev pub invariant-loop-i : goal.invariant-loop-i
invariant-loop-i l = GatheredUpto l.x l.b l.f l.s l.o l.m l.i l.initial.news l.news l.initial.texts l.texts
