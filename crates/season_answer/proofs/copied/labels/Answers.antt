-- `labels`: what a call appends, at each column.
use Rattle.std.proofs.Common.{rules}
use Rattle.season_answer.specs.Fields.{label_written}
use Rattle.season_answer.proofs.copied.labels.Goals as goal

pub returns : goal.returns
returns c = let a = c.args in c.each.ensures (label_written a.columns.now a.kept.now a.ends.now a.separator) (λ i s p r t h q. search rules)
