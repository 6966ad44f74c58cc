-- `flaws`: the smallest place of the rows so far.
use Rattle.names.specs.Verdict.{AllFlaws}
use Rattle.names.proofs.flaws.flaws.Given as goal

abbrev pub invariant-loop-j : goal.invariant-loop-j
invariant-loop-j l = AllFlaws l.rows l.n l.bytes l.tasks l.m l.items l.d l.j l.best
