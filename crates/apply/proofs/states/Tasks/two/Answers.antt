-- `two`: each arm calls the operator with the number.
use Rattle.apply.specs.Applies.{arm}
use Rattle.apply.proofs.states.Tasks.two.Goals as goal

pub returns-in-10 : goal.returns-in-10
returns-in-10 c = arm _ _ _ _ _ 10 _ c.in-10.is (λ l. c.arithmetic.ensures _)

pub returns-in-11 : goal.returns-in-11
returns-in-11 c = arm _ _ _ _ _ 11 _ c.in-11.is (λ l. c.arithmetic-in-11.ensures _)

pub returns-in-12 : goal.returns-in-12
returns-in-12 c = arm _ _ _ _ _ 12 _ c.in-12.is (λ l. c.arithmetic-in-12.ensures _)

pub returns-in-20 : goal.returns-in-20
returns-in-20 c = arm _ _ _ _ _ 20 _ c.in-20.is (λ l. c.divide.ensures _)

pub returns-in-30 : goal.returns-in-30
returns-in-30 c = arm _ _ _ _ _ 30 _ c.in-30.is (λ l. c.compare.ensures)

pub returns-in-31 : goal.returns-in-31
returns-in-31 c = arm _ _ _ _ _ 31 _ c.in-31.is (λ l. c.compare-in-31.ensures)

pub returns-in-32 : goal.returns-in-32
returns-in-32 c = arm _ _ _ _ _ 32 _ c.in-32.is (λ l. c.compare-in-32.ensures)

pub returns-in-33 : goal.returns-in-33
returns-in-33 c = arm _ _ _ _ _ 33 _ c.in-33.is (λ l. c.compare-in-33.ensures)

pub returns-in-34 : goal.returns-in-34
returns-in-34 c = arm _ _ _ _ _ 34 _ c.in-34.is (λ l. c.compare-in-34.ensures)

pub returns-in-35 : goal.returns-in-35
returns-in-35 c = arm _ _ _ _ _ 35 _ c.in-35.is (λ l. c.compare-in-35.ensures)

pub returns-in-40 : goal.returns-in-40
returns-in-40 c = arm _ _ _ _ _ 40 _ c.in-40.is (λ l. c.and.ensures _)

pub returns-in-41 : goal.returns-in-41
returns-in-41 c = arm _ _ _ _ _ 41 _ c.in-41.is (λ l. c.or.ensures _)

pub returns-in-50 : goal.returns-in-50
returns-in-50 c = arm _ _ _ _ _ 50 _ c.in-50.is (λ l. c.includes.ensures)

pub returns-in-60 : goal.returns-in-60
returns-in-60 c = arm _ _ _ _ _ 60 _ c.in-60.is (λ l. c.oneof.ensures)

pub returns-in-140 : goal.returns-in-140
returns-in-140 c = arm _ _ _ _ _ 140 _ c.in-140.is (λ l. c.nth.ensures _)
