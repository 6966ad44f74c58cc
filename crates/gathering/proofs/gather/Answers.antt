-- `gather`: no row at first, then one more each time.
use Rattle.std.proofs.Common.{arith}
use Rattle.gathering.specs.Gathered.{gathered_none, gathered_more, gathered_all}
use Rattle.gathering.proofs.gather.Goals as goal

pub loop-i-init : goal.loop-i-init
loop-i-init c = gathered_none _ _ _ _ _ _ _ _

pub loop-i-preserved : goal.loop-i-preserved
loop-i-preserved c = gathered_more _ _ _ _ _ _ _ _ _ _ _ _ _ (λ l. omega arith) (omega arith) (omega arith) c.take.ensures c.loop-i.invariant

pub returns : goal.returns
returns c = gathered_all _ _ _ _ _ _ _ _ _ _ _ (λ l. omega arith) c.loop-i.invariant
