-- `gather`: the data items of the rows so far.
use Rattle.std.proofs.Common.{◌≤◌}
use Rattle.types.specs.ColumnLaws.{Going}
use Rattle.types.proofs.columns.gather.Given as goal

abbrev pub invariant-loop-i : goal.invariant-loop-i
invariant-loop-i l = (l.m ≤ l.i) × Going l.rows l.n l.names l.types l.m l.i
