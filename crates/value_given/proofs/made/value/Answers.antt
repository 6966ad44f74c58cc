-- `value`: one value, a list that is too long, a list.
use Rattle.value_given.specs.Made.{value_one, value_long, value_list}
use Rattle.value_given.proofs.made.value.Goals as goal

pub returns-then-shape-eq0 : goal.returns-then-shape-eq0
returns-then-shape-eq0 c = value_one _ _ _ c.word-shape.ensures c.if-shape-eq0.true c.at.ensures c.single.ensures

pub returns-then-shape-gt-CELLS : goal.returns-then-shape-gt-CELLS
returns-then-shape-gt-CELLS c = value_long _ _ _ c.word-shape.ensures c.if-shape-gt-CELLS.true

pub returns : goal.returns
returns c = value_list _ _ _ c.word-shape.ensures c.if-shape-eq0.false c.listed.ensures c.many.ensures
