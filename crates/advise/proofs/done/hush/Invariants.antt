-- `hush`: the rows before are hushed.
use Rattle.advise.specs.RunTold.{Hushed}
use Rattle.advise.proofs.done.hush.Given as goal

abbrev pub invariant-loop-i : goal.invariant-loop-i
invariant-loop-i l = Hushed l.initial.out l.i l.state l.out
