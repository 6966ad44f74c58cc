-- `answer_one`: passed over, or given.
use Rattle.std.proofs.Common.{refl, arith}
use Rattle.season.specs.SeriesLaws.{label_as, unasked_as, empty_as, given_as}
use Rattle.season.proofs.fields.answer_one.Goals as goal

pub returns-then-d-ge-LIMIT : goal.returns-then-d-ge-LIMIT
returns-then-d-ge-LIMIT c =
    let a = c.args in
    label_as a.columns.now a.kept.now a.ends.now a.plan.now a.i a.texts.now a.state.now c.item_of-d.ensures c.if-d-ge-LIMIT.true

pub returns-then-not-is_asked : goal.returns-then-not-is_asked
returns-then-not-is_asked c =
    let a = c.args in
    unasked_as a.columns.now a.kept.now a.ends.now a.plan.now a.i a.texts.now a.state.now c.item_of-d.ensures (omega arith) c.is_asked.ensures c.if-not-is_asked.true

pub returns-then-f-eq0 : goal.returns-then-f-eq0
returns-then-f-eq0 c =
    let a = c.args in
    empty_as a.columns.now a.kept.now a.ends.now a.plan.now a.i a.texts.now a.state.now c.item_of-d.ensures (omega arith) c.is_asked.ensures c.if-not-is_asked.false c.field-f.ensures c.if-f-eq0.true

pub returns : goal.returns
returns c =
    let a = c.args in
    given_as a.columns.now a.kept.now a.ends.now a.plan.now a.i a.texts.now a.state.now c.item_of-d.ensures (omega arith) c.is_asked.ensures c.if-not-is_asked.false c.field-f.ensures c.if-f-eq0.false c.add.ensures refl
