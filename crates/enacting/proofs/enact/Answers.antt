-- `enact`: no row at first, then one more each time.
use Rattle.std.proofs.Common.{arith}
use Rattle.enacting.specs.Enact.{far_none, far_more, far_all}
use Rattle.enacting.proofs.enact.Goals as goal

pub loop-i-init : goal.loop-i-init
loop-i-init c = far_none _ _ _

pub loop-i-preserved : goal.loop-i-preserved
loop-i-preserved c = far_more _ _ _ _ _ _ (omega arith) c.at.ensures.component c.at.ensures.property c.at.ensures.tag c.at.ensures.number c.write.ensures c.loop-i.invariant

pub returns : goal.returns
returns c = far_all _ _ _ _ _ _ c.bounded-i-end.ensures.2 (omega arith) c.loop-i.invariant
