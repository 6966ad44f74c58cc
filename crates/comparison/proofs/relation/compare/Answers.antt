-- `compare`: the row at what comp comes to is what the definitions come to.
use Rattle.std.proofs.Common.{◌∙◌}
use Rattle.operators.specs.Comes.{means, single_is}
use Rattle.comparison.proofs.Table.{compare_comes}
use Rattle.comparison.proofs.relation.compare.Goals as goal

pub returns : goal.returns
returns c =
    let a = c.args in
    let bs = a.bytes.now in
    means bs _ _ c.single.result tt (single_is bs c.single.result c.single.ensures ∙ compare_comes bs a.o a.a a.b c.row.ensures c.comp.ensures)
