-- `push`: the row behind the others, or no room for it.
use Rattle.std.proofs.Common.{refl, arith}
use Rattle.changes.specs.Push.{pushes, pushes_not}
use Rattle.changes.proofs.Rows.push.Goals as goal

pub returns-then-n-room-clause-pushes : goal.returns-then-n-room-clause-pushes
returns-then-n-room-clause-pushes c = pushes _ _ _ _ _ _ (omega arith) _ refl

pub returns-then-n-room-2-clause-pushes : goal.returns-then-n-room-2-clause-pushes
returns-then-n-room-2-clause-pushes c = pushes_not _ _ _ _ _ _ _ (omega arith) (λ l. omega arith)

pub returns-else-n-room-2-clause-pushes : goal.returns-else-n-room-2-clause-pushes
returns-else-n-room-2-clause-pushes c = pushes_not _ _ _ _ _ _ _ (omega arith) (λ l. omega arith)
