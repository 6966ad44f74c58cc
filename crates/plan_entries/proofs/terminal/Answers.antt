-- `terminal`: the one entry.
use mathlib.Core.Path.{refl}
use Rattle.plan.specs.Writes.{terminal}
use Rattle.plan_entries.specs.Turns.{putting}
use Rattle.plan_entries.proofs.terminal.Goals as goal

pub returns : goal.returns
returns c = λ n b h m q. putting c.put.ensures terminal refl refl h.stands.child c.cell.ensures q
