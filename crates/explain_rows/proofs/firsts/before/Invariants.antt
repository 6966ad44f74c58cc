-- `before`: no row that was passed has the kind, and none parts the owner's attributes.
use Rattle.row_tests.specs.Searched.{Passed}
use Rattle.explain_rows.proofs.firsts.before.Given as goal

abbrev pub invariant-loop-i : goal.invariant-loop-i
invariant-loop-i l = Passed l.rows l.i l.j
