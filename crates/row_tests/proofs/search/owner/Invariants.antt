-- `owner`: no row that was passed is a component.
use Rattle.std.proofs.Common.{ℕ, ◌≡◌, ◌≤◌, ◌<◌}
use Rattle.row_tests.specs.Table.{kind_of}
use Rattle.row_tests.proofs.search.owner.Given as goal

abbrev pub invariant-loop-i : goal.invariant-loop-i
invariant-loop-i l = (m : ℕ) → l.i ≤ m → m < l.j → ¬ (kind_of l.rows m ≡ 13)
