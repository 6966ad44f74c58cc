-- `encode`: no element at first, then one more each time.
use Rattle.std.proofs.Common.{arith}
use Rattle.items.specs.Encode.{filled_none, filled_more, filled_all}
use Rattle.items.proofs.encode.Goals as goal

pub loop-i-init : goal.loop-i-init
loop-i-init c = filled_none _ _ _ _ _ c.shape.ensures c.put_cell.ensures c.put_cell-2.ensures

pub loop-i-preserved : goal.loop-i-preserved
loop-i-preserved c = filled_more _ _ _ _ _ _ _ _ _ (omega arith) c.requires c.element.ensures c.put_element.ensures c.loop-i.invariant

pub returns : goal.returns
returns c = filled_all _ _ _ _ _ _ (omega arith) c.loop-i.invariant
