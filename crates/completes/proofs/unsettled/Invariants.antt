-- `unsettled`: by the children passed.
use Rattle.std.proofs.Common.{not}
use Rattle.marks.specs.Raise.{Below}
use Rattle.completes.specs.Twins.{settled_f}
use Rattle.completes.proofs.unsettled.Given as goal

abbrev pub invariant-loop-t : goal.invariant-loop-t
invariant-loop-t l = Below l.f (λ C. not (settled_f l.s l.starts l.discards l.initialises C)) l.t l.m
