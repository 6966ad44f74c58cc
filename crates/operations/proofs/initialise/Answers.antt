-- `initialise`: its five rows and that of the procedure, one behind the other.
use Rattle.changes.specs.Made.{pushes_row}
use Rattle.operations.specs.Rows.{initialise_rows}
use Rattle.operations.proofs.initialise.Goals as goal

pub returns-clause-initialise_rows : goal.returns-clause-initialise_rows
returns-clause-initialise_rows c =
    initialise_rows _ _ _ _ _ _ _ _ _ _ _ _ _ _ _ _ (pushes_row c.state.ensures c.push.ensures.pushes) (pushes_row c.count.ensures c.push-2.ensures.pushes) (pushes_row c.unknown.ensures c.push-3.ensures.pushes) (pushes_row c.truth.ensures c.push-4.ensures.pushes) (pushes_row c.unknown-2.ensures c.push-5.ensures.pushes) c.procedure.ensures.procedure_row
