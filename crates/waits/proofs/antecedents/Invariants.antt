-- `antecedents`: what is noted of the tasks before the index.
use Rattle.waits.specs.Antecedents.{Upto}
use Rattle.waits.proofs.antecedents.Given as goal

abbrev pub invariant-loop-a : goal.invariant-loop-a
invariant-loop-a l = Upto l.s l.waits-items l.a l.b
