-- `negate`: each turn puts one minus on what the rows before hold.
use Rattle.std.proofs.Common.{arith}
use Rattle.expression_steps.specs.StepLaws.{negated_none, negated_more, negated_done}
use Rattle.expression_steps.proofs.negate.Goals as goal

pub loop-i-init : goal.loop-i-init
loop-i-init c = negated_none _ _ _ _

pub loop-i-preserved : goal.loop-i-preserved
loop-i-preserved c = negated_more c.loop-i-test.true c.loop-i.invariant c.put.ensures

pub returns : goal.returns
returns c = negated_done (omega arith) c.loop-i.invariant
