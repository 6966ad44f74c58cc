-- `single`: the element, and its shape.
use Rattle.script.specs.ValuesLaws.{filled_single}
use Rattle.script.proofs.values.single.Goals as goal

pub returns : goal.returns
returns c = let p = c.put_element-end.ensures in (filled_single p.0 c.put_cell.ensures, p.1)
