-- `one`: the element in its cells, and the shape.
use Rattle.typed_value.specs.Elements.{element_at}
use Rattle.typed_value.specs.ReadingLaws.{one_value}
use Rattle.typed_value.proofs.lists.one.Goals as goal

pub returns : goal.returns
returns c =
    let h = c.put_element-t.ensures in
    (h.0, one_value (element_at c.args.s.now c.args.at) h.2 h.1 c.put_cell.ensures)
