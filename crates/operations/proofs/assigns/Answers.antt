-- `assigns`: the row of one assignment more.
use Rattle.std.proofs.Common.{arith, ◌∙◌}
use Rattle.operations.specs.Rows.{assigns_more}
use Rattle.operations.proofs.assigns.Goals as goal

pub loop-i-preserved : goal.loop-i-preserved
loop-i-preserved c = record {
  few = omega arith;
  rows = assigns_more _ _ _ _ _ _ _ _ _ _ (omega arith) c.loop-i.invariant.rows c.assign.ensures.assign_row;
  same = c.assign.ensures.same ∙ c.loop-i.invariant.same;
}
