-- `always`: its four rows, one behind the other.
use Rattle.starting.specs.StartRows as rows
use Rattle.changes.specs.Made.{pushes_row}
use Rattle.starting.proofs.always.Goals as goal

pub returns-clause-appends : goal.returns-clause-appends
returns-clause-appends c = rows.always _ _ _ _ _ _ _ _ _ _ _ _ (pushes_row c.state.ensures c.push.ensures.pushes) (pushes_row c.unknown.ensures c.push-2.ensures.pushes) (pushes_row c.time.ensures c.push-3.ensures.pushes) (pushes_row c.truth.ensures c.push-4.ensures.pushes)
