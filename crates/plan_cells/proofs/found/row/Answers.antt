-- `row`: the row of the list, or the end.
use Rattle.plan_cells.specs.Finds.{row_in, row_out}
use Rattle.plan_cells.proofs.found.row.Goals as goal

pub returns-then-c-m : goal.returns-then-c-m
returns-then-c-m c = row_in c.args.tasks.now c.args.m c.args.n c.args.c c.if-c-m.true c.number.ensures

pub returns-else-c-m : goal.returns-else-c-m
returns-else-c-m c = row_out c.args.tasks.now c.args.m c.args.n c.args.c c.if-c-m.false
