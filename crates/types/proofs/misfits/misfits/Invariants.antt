-- `misfits`: the smallest place of the rows so far.
use Rattle.parts.specs.Part.{table}
use Rattle.types.specs.Judged.{AllMisfits}
use Rattle.types.proofs.misfits.misfits.Given as goal

abbrev pub invariant-loop-j : goal.invariant-loop-j
invariant-loop-j l = AllMisfits l.rows (table l.cells l.bytes) l.names l.types l.j l.best
