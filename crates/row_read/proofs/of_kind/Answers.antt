-- `of_kind`: by the kinds.
use Rattle.std.proofs.Common.{rules}
use Rattle.row_read.specs.Read.{tasks, items, sources, others}
use Rattle.row_read.proofs.of_kind.Goals as goal

pub returns-in-0 : goal.returns-in-0
returns-in-0 c = let a = c.args in tasks a.kind a.n a.p a.f.now a.w a.s.now c.of_task.result c.in-0.is c.of_task.ensures

pub returns-in-1 : goal.returns-in-1
returns-in-1 c = let a = c.args in items a.kind a.n a.p a.f.now a.w a.s.now c.of_item.result c.in-1.is c.of_item.ensures

pub returns-in-5 : goal.returns-in-5
returns-in-5 c = let a = c.args in sources a.kind a.n a.p a.f.now a.w a.s.now c.of_source.result c.in-5.is c.of_source.ensures

pub returns-in_default : goal.returns-in_default
returns-in_default c = let a = c.args in others a.kind a.n a.p a.f.now a.w a.s.now c.plain.result (search rules) (search rules) (search rules) c.plain.ensures
