-- `discarded`: no task at first, then one more each time.
use Rattle.std.proofs.Common.{not-suc-le-zero, refl, ◌∙◌, length-set, arith}
use Rattle.passes.specs.Ends.{discarded_more, discarded_all}
use Rattle.passes.proofs.discarded.Goals as goal

pub loop-k-init : goal.loop-k-init
loop-k-init c = (refl, λ n t r x y z u j l. absurd (not-suc-le-zero l))

pub loop-k-preserved : goal.loop-k-preserved
loop-k-preserved c = (length-set _ _ _ ∙ c.loop-k.invariant.0, discarded_more _ _ _ _ _ _ _ _ c.loop-k.invariant.0 (omega arith) c.nth-t.ensures.1 c.discard_one.ensures c.loop-k.invariant.1)

pub returns : goal.returns
returns c = discarded_all _ _ _ _ _ _ _ _ (omega arith) c.loop-k.invariant.1
