-- `antecedents`: none is noted at first, then one more each time.
use Rattle.std.proofs.Common.{refl, arith}
use Rattle.waits.specs.Antecedents.{upto_none, upto_more, upto_all}
use Rattle.waits.proofs.antecedents.Goals as goal

pub loop-a-init : goal.loop-a-init
loop-a-init c = upto_none _ _ _ refl refl refl refl

pub loop-a-preserved : goal.loop-a-preserved
loop-a-preserved c = upto_more _ _ _ _ _ refl c.loop-a.invariant c.noted-b.ensures

pub returns : goal.returns
returns c = upto_all _ _ _ _ (omega arith) c.loop-a.invariant
