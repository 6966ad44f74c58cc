-- `no_label`: by what the column stands for.
use Rattle.digits.specs.AppendsLaws.{append_nothing}
use Rattle.season_answer.specs.Fields.{nothing_written}
use Rattle.season_answer.specs.FieldsLaws.{no_label}
use Rattle.season_answer.proofs.copied.no_label.Goals as goal

pub returns-else-cell-eq-LABEL : goal.returns-else-cell-eq-LABEL
returns-else-cell-eq-LABEL c = no_label c.args.columns.now c.args.i c.cell.ensures (nothing_written c.args.separator) c.if-cell-eq-LABEL.false (append_nothing _ _)
