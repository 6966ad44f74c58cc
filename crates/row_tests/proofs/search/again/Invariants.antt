-- `again`: no row that was passed has the kind, and none parts the owner's attributes.
use Rattle.std.proofs.Common.{◌≡◌}
use Rattle.row_tests.specs.Table.{kind_of}
use Rattle.row_tests.specs.Searched.{Passed}
use Rattle.row_tests.proofs.search.again.Given as goal

abbrev pub invariant-loop-i : goal.invariant-loop-i
invariant-loop-i l = (l.k ≡ kind_of l.rows l.j) × Passed l.rows l.i l.j
