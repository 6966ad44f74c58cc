-- `store`: no item at first, then one more each time.
use Rattle.std.proofs.Common.{arith}
use Rattle.assigning.specs.Store.{stored_start, stored_more, stored_all}
use Rattle.assigning.proofs.store.Goals as goal

pub loop-d-init : goal.loop-d-init
loop-d-init c = stored_start _ _ _ _

pub loop-d-preserved : goal.loop-d-preserved
loop-d-preserved c = stored_more _ _ _ _ _ _ _ _ _ (omega arith) c.loop-d.invariant c.store_one.ensures

pub returns : goal.returns
returns c = stored_all _ _ _ _ _ _ _ (omega arith) c.loop-d.invariant
