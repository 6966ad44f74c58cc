-- `step`: by the mode.
use Rattle.guideline_turns.specs.TurnLaws.{too_far}
use Rattle.guideline_turns.proofs.step.Goals as goal

pub returns-then-p-gt-LIMIT : goal.returns-then-p-gt-LIMIT
returns-then-p-gt-LIMIT c = record { onward = tt; done = λ s w r n rs e f x. too_far f c.if-p-gt-LIMIT.true }

pub returns-in-Row : goal.returns-in-Row
returns-in-Row c = rw c.in-Row.is c.line.ensures

pub returns-in-Before : goal.returns-in-Before
returns-in-Before c = rw c.in-Before.is c.before-in-Before.ensures

pub returns-in-Behind : goal.returns-in-Behind
returns-in-Behind c = rw c.in-Behind.is (c.after.ensures _ _ c.requires)
