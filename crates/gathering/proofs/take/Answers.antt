-- `take`: a row of a value, or none.
use Rattle.gathering.specs.Rows.{no_value, no_number, no_item, one_value}
use Rattle.gathering.proofs.take.Goals as goal

pub returns-then-number-ne-VALUE : goal.returns-then-number-ne-VALUE
returns-then-number-ne-VALUE c = no_value _ _ _ _ _ _ _ _ c.number.ensures c.if-number-ne-VALUE.true

pub returns-then-a-ge-LIMIT : goal.returns-then-a-ge-LIMIT
returns-then-a-ge-LIMIT c = no_number _ _ _ _ _ _ _ _ c.number-a.ensures c.if-a-ge-LIMIT.true

pub returns-then-d-ge-LIMIT : goal.returns-then-d-ge-LIMIT
returns-then-d-ge-LIMIT c = no_item _ _ _ _ _ _ _ _ c.number-a.ensures c.number-d.ensures c.if-d-ge-LIMIT.true
