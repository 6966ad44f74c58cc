-- `append`: so far the first i rows of the numbers stand in the table.
use Rattle.change_rows.specs.Numbers.{Appended}
use Rattle.change_rows.proofs.append.Given as goal

abbrev pub invariant-loop-i : goal.invariant-loop-i
invariant-loop-i l = Appended l.i l.a.cells l.fn.rows l.rows
