-- `in_copies`: the tables are copies of what load left.
use Rattle.season.specs.OneLineLaws.{as_loaded, from_copies}
use Rattle.season.proofs.one_line.in_copies.Goals as goal

pub returns : goal.returns
returns c = λ m n. from_copies c.parts_of.ensures c.plan_of.ensures (as_loaded m n c.state_of.ensures c.copy_bytes.ensures c.copy_cells.ensures) c.in_tables.ensures
