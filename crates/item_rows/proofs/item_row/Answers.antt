-- `item_row`: property by property.
use Rattle.paper_rows.specs.Table.{class, name, type, value, requested}
use Rattle.item_rows.specs.ItemRow.{arm, of_class, of_name, of_type, of_value, of_requested, of_none, not_listed}
use Rattle.std.proofs.Common.{rules}
use Rattle.item_rows.proofs.item_row.Goals as goal

pub returns-in-0 : goal.returns-in-0
returns-in-0 c =
    let a = c.args in
    arm a.f.now a.s.now a.d c.plain.result a.p class c.in-0.is (of_class a.f.now a.s.now a.d c.plain.result c.requires c.plain.ensures)

pub returns-in-1 : goal.returns-in-1
returns-in-1 c =
    let a = c.args in
    arm a.f.now a.s.now a.d c.name.result a.p name c.in-1.is (of_name a.f.now a.s.now a.d c.name.result c.requires c.number.ensures c.name.ensures)

pub returns-in-41 : goal.returns-in-41
returns-in-41 c =
    let a = c.args in
    arm a.f.now a.s.now a.d c.plain-in-41.result a.p type c.in-41.is (of_type a.f.now a.s.now a.d c.plain-in-41.result c.requires c.cell.ensures c.plain-in-41.ensures)

pub returns-in-42 : goal.returns-in-42
returns-in-42 c =
    let a = c.args in
    arm a.f.now a.s.now a.d c.value.result a.p value c.in-42.is (of_value a.f.now a.s.now a.d c.value.result c.requires c.value.ensures)

pub returns-in-50 : goal.returns-in-50
returns-in-50 c =
    let a = c.args in
    arm a.f.now a.s.now a.d c.by_cells.result a.p requested c.in-50.is (of_requested a.f.now a.s.now a.d c.by_cells.result c.requires c.cell-tag.ensures c.cell-in-50.ensures c.by_cells.ensures)

pub returns-in_default : goal.returns-in_default
returns-in_default c =
    let a = c.args in
    of_none a.f.now a.s.now a.d c.plain-in_default.result a.p (not_listed (search rules) (search rules) (search rules) (search rules) (search rules)) c.plain-in_default.ensures
