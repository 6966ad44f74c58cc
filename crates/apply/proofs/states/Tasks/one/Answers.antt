-- `one`: each arm calls the operator with the number.
use Rattle.apply.specs.Applies.{arm, sole}
use Rattle.apply.proofs.states.Tasks.one.Goals as goal

pub returns-in-80 : goal.returns-in-80
returns-in-80 c = arm _ _ _ _ _ 80 _ c.in-80.is (λ l. c.negate.ensures _ (sole l))

pub returns-in-90 : goal.returns-in-90
returns-in-90 c = arm _ _ _ _ _ 90 _ c.in-90.is (λ l. c.isknown.ensures _)

pub returns-in-100 : goal.returns-in-100
returns-in-100 c = arm _ _ _ _ _ 100 _ c.in-100.is (λ l. c.not.ensures _)

pub returns-in-110 : goal.returns-in-110
returns-in-110 c = arm _ _ _ _ _ 110 _ c.in-110.is (λ l. c.count.ensures _)

pub returns-in-120 : goal.returns-in-120
returns-in-120 c = arm _ _ _ _ _ 120 _ c.in-120.is (λ l. c.sum.ensures _)

pub returns-in-130 : goal.returns-in-130
returns-in-130 c = arm _ _ _ _ _ 130 _ c.in-130.is (λ l. c.max.ensures)

pub returns-in-131 : goal.returns-in-131
returns-in-131 c = arm _ _ _ _ _ 131 _ c.in-131.is (λ l. c.min.ensures)
