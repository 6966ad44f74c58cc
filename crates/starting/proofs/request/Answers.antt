-- `request`: the row of an item that is not requested.
use Rattle.starting.specs.StartRows.{request_more}
use Rattle.changes.specs.Made.{asks_row}
use Rattle.starting.proofs.request.Goals as goal

pub returns-then-not-requested-clause-request_row : goal.returns-then-not-requested-clause-request_row
returns-then-not-requested-clause-request_row c = request_more _ _ _ _ _ _ c.requested.ensures c.if-not-requested.true (asks_row c.truth.ensures c.push_once.ensures.asks)
