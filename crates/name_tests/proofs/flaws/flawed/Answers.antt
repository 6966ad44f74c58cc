-- `flawed`: by the kind of the row.
use Rattle.std.proofs.Common.{sym, ◌∙◌, arith}
use Rattle.name_tests.specs.Flaws.{flawed_task, flawed_item, flawed_component, flawed_constraint, flawed_source, flawed_target, flawed_other}
use Rattle.name_tests.proofs.flaws.flawed.Goals as goal

pub returns-then-is_task : goal.returns-then-is_task
returns-then-is_task c = let a = c.args in flawed_task a.rows.now a.n a.bytes.now a.j c.handle-h.ensures c.kind-k.ensures (sym c.is_task.ensures ∙ c.if-is_task.true) c.listed.ensures

pub returns-in-18 : goal.returns-in-18
returns-in-18 c = let a = c.args in flawed_item a.rows.now a.n a.bytes.now a.j c.handle-h.ensures c.kind-k.ensures c.in-18.is c.listed-in-18.ensures

pub returns-in-13 : goal.returns-in-13
returns-in-13 c = let a = c.args in flawed_component a.rows.now a.n a.bytes.now a.j c.handle-h.ensures c.kind-k.ensures c.in-13.is c.component.ensures

pub returns-in-57 : goal.returns-in-57
returns-in-57 c = let a = c.args in flawed_constraint a.rows.now a.n a.bytes.now a.j c.handle-h.ensures c.kind-k.ensures c.in-57.is c.constraint.ensures

pub returns-in-60 : goal.returns-in-60
returns-in-60 c = let a = c.args in flawed_source a.rows.now a.n a.bytes.now a.j c.handle-h.ensures c.kind-k.ensures c.in-60.is c.listed-in-60.ensures

pub returns-in-81 : goal.returns-in-81
returns-in-81 c = let a = c.args in flawed_target a.rows.now a.n a.bytes.now a.j c.handle-h.ensures c.kind-k.ensures c.in-81.is c.listed-in-81.ensures

pub returns-in_default : goal.returns-in_default
returns-in_default c =
    let a = c.args in
    flawed_other a.rows.now a.n a.bytes.now a.j c.handle-h.ensures c.kind-k.ensures (sym c.is_task.ensures ∙ c.if-is_task.false) (omega arith) (omega arith) (omega arith) (omega arith) (omega arith) (c.attribute.ensures a.n a.bytes.now)
