-- `through`: refused as it is read, or what the call replies.
use Rattle.season.specs.SeriesLaws.{refused_as, called_as, typed_as}
use Rattle.season.proofs.one_value.through.Goals as goal

pub returns-then-refused-ne-NONE : goal.returns-then-refused-ne-NONE
returns-then-refused-ne-NONE c =
    let a = c.args in
    typed_as a.item a.texts.now a.plan.now a.state.now a.field.now c.cell-declared.ensures
    (refused_as a.item a.texts.now a.plan.now a.state.now c.read-refused.ensures c.if-refused-ne-NONE.true)

pub returns : goal.returns
returns c =
    let a = c.args in
    typed_as a.item a.texts.now a.plan.now a.state.now a.field.now c.cell-declared.ensures
    (called_as a.item a.texts.now a.plan.now a.state.now _ _ _ c.read-refused.ensures c.if-refused-ne-NONE.false c.add_cells.ensures)
