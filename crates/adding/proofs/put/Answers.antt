-- `put`: the tags, the numbers, the bytes, and the two cells of requested.
use Rattle.adding.specs.Put.{put_all}
use Rattle.adding.proofs.put.Goals as goal

pub returns : goal.returns
returns c =
    let a = c.args in
    put_all a.cells.now a.out.now a.d a.s.now a.texts.now c.requires c.copy_cells.ensures c.copy_cells-2.ensures c.copy_bytes.ensures c.put_cell.ensures c.put_cell-2.ensures
