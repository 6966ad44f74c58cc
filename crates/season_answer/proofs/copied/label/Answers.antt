-- `label`: by what the column stands for.
use Rattle.digits.specs.AppendsLaws.{append_nothing}
use Rattle.separated.specs.Records.{field_of}
use Rattle.season_answer.specs.Fields.{field_written}
use Rattle.season_answer.specs.FieldsLaws.{no_label}
use Rattle.season_answer.proofs.copied.label.Goals as goal

pub returns-else-cell-eq-LABEL : goal.returns-else-cell-eq-LABEL
returns-else-cell-eq-LABEL c =
    let a = c.args in
    no_label a.columns.now a.i c.cell.ensures (field_written a.separator (field_of a.kept.now a.ends.now a.i)) c.if-cell-eq-LABEL.false (append_nothing _ _)
