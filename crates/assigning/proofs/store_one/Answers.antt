-- `store_one`: tags, numbers, bytes.
use Rattle.assigning.specs.Store.{stored_none, stored_one}
use Rattle.assigning.proofs.store_one.Goals as goal

pub returns-then-cell-eq-EMPTY : goal.returns-then-cell-eq-EMPTY
returns-then-cell-eq-EMPTY c = stored_none _ _ _ _ _ c.cell.ensures c.if-cell-eq-EMPTY.true

pub returns : goal.returns
returns c =
    stored_one _ _ _ _ _ _ _ _ c.requires c.cell.ensures c.if-cell-eq-EMPTY.false c.copy_cells.ensures c.copy_cells-2.ensures c.copy_bytes.ensures
