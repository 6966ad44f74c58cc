-- `enact`: the rows passed are in the state.
use Rattle.enacting.specs.Enact.{SoFar}
use Rattle.enacting.proofs.enact.Given as goal

abbrev pub invariant-loop-i : goal.invariant-loop-i
invariant-loop-i l = SoFar l.fn.s l.o l.i-end l.i l.s
