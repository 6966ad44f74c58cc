-- `taken`: so far the numbers are those of the first i rows.
use Rattle.change_rows.specs.Numbers.{Taken}
use Rattle.change_rows.proofs.taken.Given as goal

abbrev pub invariant-loop-i : goal.invariant-loop-i
invariant-loop-i l = Taken l.i l.rows l.cells
