-- `copy`: the bytes copied so far.
use Rattle.parts.specs.Texts.{cells}
use Rattle.pool.specs.Written.{Written}
use Rattle.pool.proofs.copy.Given as goal

abbrev pub invariant-loop-j : goal.invariant-loop-j
invariant-loop-j l = Written l.fn.bytes l.bytes l.o (cells l.text l.place l.j)
