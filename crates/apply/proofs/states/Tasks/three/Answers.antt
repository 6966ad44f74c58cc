-- `three`: "if" is the only operator of three operands.
use Rattle.std.proofs.Common.{rules}
use Rattle.apply.specs.Applies.{arm, no_three}
use Rattle.apply.proofs.states.Tasks.three.Goals as goal

pub returns-in-70 : goal.returns-in-70
returns-in-70 c = arm _ _ _ _ _ 70 _ c.in-70.is (λ l. c.if_else.ensures _)

pub returns-in_default : goal.returns-in_default
returns-in_default c = no_three _ _ _ _ _ _ _ _ (search rules)
