-- `value`: it is there, or is not.
use mathlib.Core.Path.{refl}
use Rattle.row_shown.specs.declared.Shown.TheVariants.{OfValue}
use Rattle.item_rows.specs.ItemRow.{value_there, value_none}
use Rattle.item_rows.proofs.value.Goals as goal

pub returns-then-has_value : goal.returns-then-has_value
returns-then-has_value c =
    let a = c.args in
    value_there a.s.now a.d (record { shown = OfValue; value = c.value_of.result }) c.has_value.ensures c.if-has_value.true c.value_of.ensures refl

pub returns-else-has_value : goal.returns-else-has_value
returns-else-has_value c =
    let a = c.args in
    value_none a.s.now a.d c.plain.result c.has_value.ensures c.if-has_value.false c.plain.ensures
