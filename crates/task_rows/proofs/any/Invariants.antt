-- `any`: by the marks passed.
use Rattle.std.proofs.Common.{◌≡◌}
use Rattle.waits.specs.Booleans.{any_f}
use Rattle.waits.specs.Twins.{marked}
use Rattle.task_rows.proofs.any.Given as goal

abbrev pub invariant-loop-mark : goal.invariant-loop-mark
invariant-loop-mark l = l.found ≡ any_f (marked l.mark-items) l.mark-index
