-- `initialises`: no task at first, then one more each time.
use Rattle.std.proofs.Common.{not-suc-le-zero, refl, ◌∙◌, length-set, arith}
use Rattle.passes.specs.Passes.{initialises_more, initialises_all}
use Rattle.passes.proofs.initialises.Goals as goal

pub loop-k-init : goal.loop-k-init
loop-k-init c = (refl, λ w n now t r x y j l. absurd (not-suc-le-zero l))

pub loop-k-preserved : goal.loop-k-preserved
loop-k-preserved c = (length-set _ _ _ ∙ c.loop-k.invariant.0, initialises_more _ _ _ _ _ c.loop-k.invariant.0 (omega arith) c.nth-t.ensures.1 c.initialise_one.ensures c.loop-k.invariant.1)

pub returns : goal.returns
returns c = initialises_all _ _ _ _ _ (omega arith) c.loop-k.invariant.1
