-- `parent`: none, or one.
use Rattle.std.proofs.Common.{rules}
use Rattle.task_rows.specs.Answers.{parent_none, parent_some}
use Rattle.task_rows.proofs.parent.Goals as goal

pub returns-in-0 : goal.returns-in-0
returns-in-0 c = parent_none c.args.p c.plain.result c.in-0.is c.plain.ensures

pub returns-in_default : goal.returns-in_default
returns-in_default c = parent_some c.args.p c.plain-in_default.result (search rules) c.plain-in_default.ensures
