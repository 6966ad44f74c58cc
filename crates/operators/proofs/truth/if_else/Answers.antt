-- `if_else`: each branch takes the side of the tests that led there.
use Rattle.std.proofs.Common.{sym, ap, ◌∙◌}
use Rattle.values.specs.Meaning.{meaning_v}
use Rattle.operators.specs.Comes.{means, single_is}
use Rattle.operators.specs.Twins.{true_c, false_c}
use Rattle.operators.proofs.Truths.{if_true, if_false, if_neither}
use Rattle.operators.proofs.truth.if_else.Goals as goal

pub returns-then-is_true : goal.returns-then-is_true
returns-then-is_true c = λ bs.
    let a = c.args in
    means bs _ _ a.b tt (if_true bs a.a (meaning_v bs a.b) (meaning_v bs a.c) (sym (c.is_true.ensures ∙ ap true_c c.scalar_of-s.ensures) ∙ c.if-is_true.true))

pub returns-then-is_false : goal.returns-then-is_false
returns-then-is_false c = λ bs.
    let a = c.args in
    means bs _ _ a.c tt (if_false bs a.a (meaning_v bs a.b) (meaning_v bs a.c) (sym (c.is_false.ensures ∙ ap false_c c.scalar_of-s.ensures) ∙ c.if-is_false.true))

pub returns-else-is_false : goal.returns-else-is_false
returns-else-is_false c = λ bs.
    let a = c.args in
    means bs _ _ c.single.result tt
    (single_is bs c.single.result c.single.ensures
    ∙ if_neither bs a.a (meaning_v bs a.b) (meaning_v bs a.c)
    (sym (c.is_true.ensures ∙ ap true_c c.scalar_of-s.ensures) ∙ c.if-is_true.false)
    (sym (c.is_false.ensures ∙ ap false_c c.scalar_of-s.ensures) ∙ c.if-is_false.false))
