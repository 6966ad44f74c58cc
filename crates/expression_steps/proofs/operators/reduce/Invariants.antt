-- `reduce`: the operators that wait no longer are applied.
use Rattle.std.proofs.Common.{◌≡◌, ◌+◌}
use Rattle.expression_steps.specs.Rows.{Beside}
use Rattle.expression_steps.specs.Made.{Settles}
use Rattle.expression_steps.specs.StepLaws.{operand}
use Rattle.expression_steps.proofs.operators.reduce.Given as goal

abbrev pub invariant-loop-i : goal.invariant-loop-i
invariant-loop-i l = record {
  sum : l.used + l.i ≡ l.fn.o.used + l.fn.o.n;
  beside : Beside l.fn.o.used l.used l.fn.cells l.cells;
  done : Settles l.fn.cells l.cells l.ks l.fs l.ds l.fn.o l.l l.most (operand l.i l.from l.used l.depth);
}
