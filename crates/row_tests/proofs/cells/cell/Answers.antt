-- `cell`: the two cases of the definition.
use Rattle.std.proofs.Common.{lt-ltb, le-ltb}
use Rattle.row_tests.specs.Table.{cell_of, row_limit}
use Rattle.row_tests.proofs.cells.cell.Goals as goal

pub returns-then-i-lt-ROWS : goal.returns-then-i-lt-ROWS
unfolding cell_of
returns-then-i-lt-ROWS c = rw (lt-ltb c.args.i row_limit c.if-i-lt-ROWS.true) c.number.ensures

pub returns-else-i-lt-ROWS : goal.returns-else-i-lt-ROWS
unfolding cell_of
returns-else-i-lt-ROWS c = rw (le-ltb c.args.i row_limit c.if-i-lt-ROWS.false)
