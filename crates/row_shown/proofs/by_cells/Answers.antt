-- `by_cells`: by the tags.
use mathlib.Core.Path.{refl}
use Rattle.row_shown.specs.Cells.{cells_unknown, cells_truth, cells_count, cells_time, cells_state, cells_none}
use Rattle.std.proofs.Common.{rules}
use Rattle.row_shown.proofs.by_cells.Goals as goal

pub returns-in-1 : goal.returns-in-1
returns-in-1 c = cells_unknown c.args.k c.args.x c.scalar.result c.in-1.is refl c.scalar.ensures

pub returns-in-2 : goal.returns-in-2
returns-in-2 c = cells_truth c.args.k c.args.x c.scalar-in-2.result c.in-2.is refl c.scalar-in-2.ensures

pub returns-in-3 : goal.returns-in-3
returns-in-3 c = cells_count c.args.k c.args.x c.count.result c.in-3.is c.count.ensures

pub returns-in-4 : goal.returns-in-4
returns-in-4 c = cells_time c.args.k c.args.x c.plain.result c.in-4.is c.plain.ensures

pub returns-in-5 : goal.returns-in-5
returns-in-5 c = cells_state c.args.k c.args.x c.plain-in-5.result c.in-5.is c.plain-in-5.ensures

pub returns-in_default : goal.returns-in_default
returns-in_default c =
    cells_none c.args.k c.args.x c.plain-in_default.result (search rules) (search rules) (search rules) (search rules) (search rules) c.plain-in_default.ensures
