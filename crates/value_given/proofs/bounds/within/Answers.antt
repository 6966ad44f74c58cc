-- `within`: one value, a list, and a list that is too long.
use Rattle.std.proofs.Common.{rules, arith, ◌≡◌, Bool, false, subst, leb}
use Rattle.value_given.specs.Bounds.{WithinBy, within_one, within_long, within_list}
use Rattle.value_given.proofs.bounds.within.Goals as goal

pub returns-then-shape-eq0 : goal.returns-then-shape-eq0
returns-then-shape-eq0 c = within_one _ _ _ c.word-shape.ensures c.if-shape-eq0.true c.word.ensures c.number.ensures c.is_small.ensures

pub returns-then-shape-most : goal.returns-then-shape-most
returns-then-shape-most c = within_list _ _ _ c.word-shape.ensures c.if-shape-eq0.false (omega arith) c.all_small.ensures

pub returns-else-shape-most : goal.returns-else-shape-most
returns-else-shape-most c =
    let a = c.args in
    let e : false ≡ leb c.word-shape.result 17 = search rules in
    subst (λ (r : Bool). WithinBy a.tags.now a.nums.now a.bytes.now r) e (within_long _ _ _ c.word-shape.ensures (omega arith))
