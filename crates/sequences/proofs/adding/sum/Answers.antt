-- `sum`: of a list its sum; of all else unknown.
use Rattle.std.proofs.Common.{◌∙◌}
use Rattle.operators.specs.Comes.{means, single_is}
use Rattle.sequences.proofs.Sums.{sum_list, sum_scalar}
use Rattle.sequences.proofs.adding.sum.Goals as goal

pub returns-then-a : goal.returns-then-a
returns-then-a c = λ bs.
    means bs _ _ c.single.result tt
    (single_is bs c.single.result c.single.ensures ∙ sum_list bs c.args.a c.sum_of.result c.if-a.true (c.sum_of.ensures bs))

pub returns-else-a : goal.returns-else-a
returns-else-a c = λ bs. means bs _ _ c.single-else-a.result tt (single_is bs c.single-else-a.result c.single-else-a.ensures ∙ sum_scalar bs c.args.a c.if-a.false)
