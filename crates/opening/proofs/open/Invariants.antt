-- `open`: the tasks passed are open.
use Rattle.std.proofs.Common.{◌≤◌, length}
use Rattle.opening.specs.Opened.{Opened}
use Rattle.opening.proofs.open.Given as goal

abbrev pub invariant-loop-t : goal.invariant-loop-t
invariant-loop-t l = record { long : 2952 ≤ length l.s; opened : l.t ≤ 32 → Opened l.t l.s }
