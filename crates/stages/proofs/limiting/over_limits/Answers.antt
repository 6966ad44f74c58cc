-- `over_limits`: the smallest of three places.
use Rattle.stages.specs.JudgedLaws.{over_least}
use Rattle.stages.proofs.limiting.over_limits.Goals as goal

pub returns : goal.returns
returns c =
    let s = c.args in
    over_least s.text.now s.kinds.now s.places.now s.lengths.now s.t s.short c.past_limit-token.result c.large-expression.result c.whole-count.result c.earlier.result c.earlier-2.result
    c.past_limit-token.ensures c.large-expression.ensures c.whole-count.ensures c.earlier.ensures c.earlier-2.ensures
