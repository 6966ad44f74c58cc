-- `ended_plans`: by the children passed.
use Rattle.marks.specs.Raise.{Below}
use Rattle.discards.specs.Twins.{ends_f}
use Rattle.discards.proofs.ended_plans.Given as goal

abbrev pub invariant-loop-t : goal.invariant-loop-t
invariant-loop-t l = Below l.f (ends_f l.s l.f) l.t l.m
