-- `start`: the four parts, one behind the other.
use Rattle.starting.specs.StartRows.{start_rows}
use Rattle.starting.proofs.start.Goals as goal

pub returns-clause-start_rows : goal.returns-clause-start_rows
returns-clause-start_rows c = start_rows _ _ _ _ _ _ _ _ _ _ _ _ _ _ c.always.ensures.appends c.count.ensures.count_row c.requests.ensures.request_rows c.procedure.ensures.procedure_row
