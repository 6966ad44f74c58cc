-- `typed`: one value, a list, and no list.
use Rattle.std.proofs.Common.{rules}
use Rattle.value_given.specs.Given.{given}
use Rattle.value_given.specs.Kinds.{typed_one, typed_no_list, typed_list}
use Rattle.value_given.proofs.kinds.typed.Goals as goal

pub returns-then-shape-eq0 : goal.returns-then-shape-eq0
returns-then-shape-eq0 c = typed_one _ _ _ c.word-shape.ensures c.if-shape-eq0.true c.of_one.ensures c.is_of.ensures

pub returns-then-e-ne-NONE : goal.returns-then-e-ne-NONE
returns-then-e-ne-NONE c = typed_list _ _ _ c.word-shape.ensures c.if-shape-eq0.false c.of_each-e.ensures c.if-e-ne-NONE.true c.all_of.ensures

pub returns-else-e-ne-NONE : goal.returns-else-e-ne-NONE
unfolding given
returns-else-e-ne-NONE c = search (rules, typed_no_list)
