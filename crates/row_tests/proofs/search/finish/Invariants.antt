-- `finish`: no row that was passed is a head.
use Rattle.std.proofs.Common.{ℕ, ◌≡◌, ◌<◌, false}
use Rattle.row_names.specs.Sheet.{head_kind}
use Rattle.row_tests.specs.Table.{kind_of}
use Rattle.row_tests.proofs.search.finish.Given as goal

abbrev pub invariant-loop-i : goal.invariant-loop-i
invariant-loop-i l = (m : ℕ) → l.j < m → m < l.i → head_kind (kind_of l.rows m) ≡ false
