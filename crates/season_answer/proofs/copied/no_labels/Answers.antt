-- `no_labels`: what a call appends, at each column.
use Rattle.std.proofs.Common.{rules}
use Rattle.season_answer.specs.Fields.{no_label_written}
use Rattle.season_answer.proofs.copied.no_labels.Goals as goal

pub returns : goal.returns
returns c = c.each.ensures (no_label_written c.args.columns.now c.args.separator) (λ i s p r t h q. search rules)
