-- `row`: all rows are counted, and no more than the number are such.
use Rattle.row_tests.specs.Table.{kind_of}
use Rattle.tree.specs.Owned.{begins_kind, numbered_none}
use Rattle.tree.proofs.owners.row.Goals as goal

pub returns : goal.returns
returns c = numbered_none (begins_kind c.args.o) (kind_of c.args.rows.now) c.args.n 1365 c.loop-i.seen c.loop-i.i c.loop-i.invariant c.loop-i-test.false
