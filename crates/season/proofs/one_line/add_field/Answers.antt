-- `add_field`: a label, or what a call of add replies.
use native.Mathlib.Omega.{arith}
use Rattle.season.specs.OneLineLaws.{label_as, item_as}
use Rattle.season.proofs.one_line.add_field.Goals as goal

pub returns-then-d-ge-LIMIT : goal.returns-then-d-ge-LIMIT
returns-then-d-ge-LIMIT c =
    let a = c.args in
    label_as a.columns.now a.kept.now a.ends.now a.plan.now a.i a.texts.now a.state.now c.item_of-d.ensures c.cell-name.ensures c.if-d-ge-LIMIT.true

pub returns : goal.returns
returns c =
    let a = c.args in
    item_as a.columns.now a.kept.now a.ends.now a.plan.now a.i a.texts.now a.state.now c.item_of-d.ensures c.cell-name.ensures (omega arith) c.field-f.ensures c.add-number.ensures
