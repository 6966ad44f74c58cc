-- `class`: by its number.
use Rattle.task_rows.specs.Answers.{class_one, class_two, class_three, class_other}
use Rattle.std.proofs.Common.{rules}
use Rattle.task_rows.proofs.class.Goals as goal

pub returns-in-1 : goal.returns-in-1
returns-in-1 c = class_one c.args.k c.plain.result c.in-1.is c.plain.ensures

pub returns-in-2 : goal.returns-in-2
returns-in-2 c = class_two c.args.k c.plain-in-2.result c.in-2.is c.plain-in-2.ensures

pub returns-in-3 : goal.returns-in-3
returns-in-3 c = class_three c.args.k c.plain-in-3.result c.in-3.is c.plain-in-3.ensures

pub returns-in_default : goal.returns-in_default
returns-in_default c =
    class_other c.args.k c.plain-in_default.result (search rules) (search rules) (search rules) c.plain-in_default.ensures
