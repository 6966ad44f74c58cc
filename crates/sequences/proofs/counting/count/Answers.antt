-- `count`: a list's size is within the limit of integers.
use Rattle.std.proofs.Common.{◌∙◌}
use Rattle.operators.specs.Comes.{means, single_is}
use Rattle.sequences.proofs.Picks.{count_list, count_scalar}
use Rattle.sequences.proofs.counting.count.Goals as goal

pub returns-then-a : goal.returns-then-a
returns-then-a c = λ bs.
    means bs _ _ c.single.result tt
    (single_is bs c.single.result c.single.ensures ∙ count_list bs c.args.a c.if-a.true c.integer.ensures c.wide_count.ensures c.size.ensures.0 c.size.ensures.1)

pub returns-else-a : goal.returns-else-a
returns-else-a c = λ bs. means bs _ _ c.single-else-a.result tt (single_is bs c.single-else-a.result c.single-else-a.ensures ∙ count_scalar bs c.args.a c.if-a.false)
