-- `extreme`: of a list its first best; of all else unknown.
use Rattle.std.proofs.Common.{◌∙◌}
use Rattle.operators.specs.Comes.{means, single_is}
use Rattle.sequences.proofs.Elements.{extreme_list, extreme_scalar}
use Rattle.sequences.proofs.extremes.extreme.Goals as goal

pub returns-then-a : goal.returns-then-a
returns-then-a c =
    let a = c.args in
    let bs = a.bytes.now in
    means bs _ _ c.single.result tt (single_is bs c.single.result c.single.ensures ∙ extreme_list bs a.e a.a c.extreme_of.result c.if-a.true c.extreme_of.ensures)

pub returns-else-a : goal.returns-else-a
returns-else-a c =
    let a = c.args in
    let bs = a.bytes.now in
    means bs _ _ c.single-else-a.result tt (single_is bs c.single-else-a.result c.single-else-a.ensures ∙ extreme_scalar bs a.e a.a c.if-a.false)
