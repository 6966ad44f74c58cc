-- `keep`: the mark, the cells, the bytes.
use Rattle.assigning.specs.Gather.{keeps}
use Rattle.assigning.proofs.keep.Goals as goal

pub returns : goal.returns
returns c = keeps _ _ _ _ _ _ c.requires c.put_cell.ensures c.copy_cells.ensures c.copy_bytes.ensures
