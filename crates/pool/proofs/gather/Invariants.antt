-- `gather`: the parts so far are moved.
use Rattle.std.proofs.Common.{◌-◌}
use Rattle.pool.specs.Columns.{Moved}
use Rattle.pool.proofs.gather.Given as goal

abbrev pub invariant-loop-i : goal.invariant-loop-i
invariant-loop-i l = Moved l.text l.fn.cells l.cells l.fn.bytes l.bytes l.from (l.i - l.from) l.o l.p
