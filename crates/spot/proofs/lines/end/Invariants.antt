-- `end`: going on from the place, no newline is passed.
use Rattle.spot.specs.Lines.{Unbroken}
use Rattle.spot.proofs.lines.end.Given as goal

abbrev pub invariant-loop-i : goal.invariant-loop-i
invariant-loop-i l = Unbroken l.text l.place l.i
