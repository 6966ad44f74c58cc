-- `assign`: its row.
use Rattle.changes.specs.Made.{pushes_row}
use Rattle.operations.specs.Rows.{assign_row}
use Rattle.operations.proofs.assign.Goals as goal

pub returns-clause-assign_row : goal.returns-clause-assign_row
returns-clause-assign_row c = assign_row _ _ _ _ _ _ c.cell-d.ensures (pushes_row c.assigned.ensures c.push.ensures.pushes)
