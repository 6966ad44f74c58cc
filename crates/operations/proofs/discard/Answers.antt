-- `discard`: its two rows, one behind the other.
use Rattle.changes.specs.Made.{pushes_row}
use Rattle.operations.specs.Rows.{discard_rows}
use Rattle.operations.proofs.discard.Goals as goal

pub returns-clause-discard_rows : goal.returns-clause-discard_rows
returns-clause-discard_rows c = discard_rows _ _ _ _ _ _ _ _ (pushes_row c.state.ensures c.push.ensures.pushes) (pushes_row c.time.ensures c.push-2.ensures.pushes)
