-- `procedure`: the row of an action.
use Rattle.starting.specs.StartRows.{procedure_more}
use Rattle.changes.specs.Made.{pushes_row}
use Rattle.starting.proofs.procedure.Goals as goal

pub returns-then-cell-eq-ACTION-clause-procedure_row : goal.returns-then-cell-eq-ACTION-clause-procedure_row
returns-then-cell-eq-ACTION-clause-procedure_row c = procedure_more _ _ _ _ _ _ c.cell.ensures c.if-cell-eq-ACTION.true (pushes_row c.unknown.ensures c.push.ensures.pushes)
