-- `ended_plans`: no child at first, then one more each time.
use Rattle.std.proofs.Common.{false, refl, arith}
use Rattle.std.proofs.lemmas.List.{get_or-replicate}
use Rattle.marks.specs.Raise.{below_none, below_more, below_all}
use Rattle.discards.proofs.ended_plans.Goals as goal

pub loop-t-init : goal.loop-t-init
loop-t-init c = below_none _ _ _ refl (λ T l. get_or-replicate 32 T false false l)

pub loop-t-preserved : goal.loop-t-preserved
loop-t-preserved c = below_more _ _ _ _ _ c.cell.ensures c.ends.ensures c.raise.ensures c.loop-t.invariant

pub returns : goal.returns
returns c = below_all _ _ _ _ (omega arith) c.loop-t.invariant
