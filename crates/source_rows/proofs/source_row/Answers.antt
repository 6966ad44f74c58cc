-- `source_row`: property by property.
use Rattle.paper_rows.specs.Table.{class, name, data_item_of, mandatory}
use Rattle.source_rows.specs.SourceRow.{arm, of_class, of_name, of_item, of_mandatory, of_none, not_listed}
use Rattle.std.proofs.Common.{rules}
use Rattle.source_rows.proofs.source_row.Goals as goal

pub returns-in-0 : goal.returns-in-0
returns-in-0 c =
    let a = c.args in
    arm a.f.now a.n c.plain.result a.p class c.in-0.is (of_class a.f.now a.n c.plain.result c.plain.ensures)

pub returns-in-1 : goal.returns-in-1
returns-in-1 c =
    let a = c.args in
    arm a.f.now a.n c.name.result a.p name c.in-1.is (of_name a.f.now a.n c.name.result c.number-d.ensures c.cell.ensures c.name.ensures)

pub returns-in-56 : goal.returns-in-56
returns-in-56 c =
    let a = c.args in
    arm a.f.now a.n c.plain-in-56.result a.p data_item_of c.in-56.is (of_item a.f.now a.n c.plain-in-56.result c.cell-d.ensures c.plain-in-56.ensures)

pub returns-in-57 : goal.returns-in-57
returns-in-57 c =
    let a = c.args in
    arm a.f.now a.n c.by_answer.result a.p mandatory c.in-57.is (of_mandatory a.f.now a.n c.by_answer.result c.cell-in-57.ensures c.by_answer.ensures)

pub returns-in_default : goal.returns-in_default
returns-in_default c =
    let a = c.args in
    of_none a.f.now a.n c.plain-in_default.result a.p (not_listed (search rules) (search rules) (search rules) (search rules)) c.plain-in_default.ensures
