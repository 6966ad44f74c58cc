-- `complete`: its three rows and those of the assignments, one behind the other.
use Rattle.changes.specs.Made.{pushes_row}
use Rattle.operations.specs.Rows.{complete_rows}
use Rattle.operations.proofs.complete.Goals as goal

pub returns-clause-complete_rows : goal.returns-clause-complete_rows
returns-clause-complete_rows c =
    complete_rows _ _ _ _ _ _ _ _ _ _ _ _ _ (pushes_row c.state.ensures c.push.ensures.pushes) (pushes_row c.time.ensures c.push-2.ensures.pushes) (pushes_row c.unknown.ensures c.push-3.ensures.pushes) c.cell.ensures c.cell-2.ensures c.assigns.ensures.assign_rows
