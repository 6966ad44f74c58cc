-- `spread`: the tasks so far are marked.
use Rattle.std.proofs.Common.{◌<◌}
use Rattle.row_tests.specs.Table.{sheet}
use Rattle.names.specs.Walk.{Up, Spread}
use Rattle.names.proofs.walk.spread.Given as goal

abbrev pub invariant-loop-k : goal.invariant-loop-k
invariant-loop-k l = Up l.fn.marks l.marks × (l.t < l.n → Spread (sheet l.rows l.n l.bytes) l.tasks l.k l.t l.fn.marks l.marks)
