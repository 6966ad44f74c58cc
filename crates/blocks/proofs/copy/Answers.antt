-- `copy`: one element more is copied.
use Rattle.blocks.specs.Blocks.{copied_none, copied_more}
use Rattle.blocks.proofs.copy.Goals as goal

pub loop-k-init : goal.loop-k-init
loop-k-init g c = copied_none _ _ _ _

pub loop-k-preserved : goal.loop-k-preserved
loop-k-preserved g c = copied_more _ _ _ _ _ _ _ c.at.ensures c.put.ensures c.loop-k.invariant
