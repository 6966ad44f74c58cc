-- `encode`: the shape, and then the elements one by one.
use Rattle.items.specs.Encode.{Filled}
use Rattle.items.proofs.encode.Given as goal

abbrev pub invariant-loop-i : goal.invariant-loop-i
invariant-loop-i l = Filled l.b l.v l.place l.i l.cells l.out
