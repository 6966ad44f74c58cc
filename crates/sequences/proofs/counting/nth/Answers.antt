-- `nth`: of a list what the scalar picks; of all else unknown.
use Rattle.std.proofs.Common.{◌∙◌}
use Rattle.operators.specs.Comes.{means, single_is}
use Rattle.sequences.proofs.Picks.{nth_list, nth_scalar}
use Rattle.sequences.proofs.counting.nth.Goals as goal

pub returns-then-b : goal.returns-then-b
returns-then-b c = λ bs.
    let a = c.args in
    means bs _ _ c.single.result tt
    (single_is bs c.single.result c.single.ensures ∙ nth_list bs a.a a.b c.nth_of.result c.if-b.true c.scalar_of.ensures (c.nth_of.ensures bs))

pub returns-else-b : goal.returns-else-b
returns-else-b c = λ bs.
    let a = c.args in
    means bs _ _ c.single-else-b.result tt (single_is bs c.single-else-b.result c.single-else-b.ensures ∙ nth_scalar bs a.a a.b c.if-b.false)
