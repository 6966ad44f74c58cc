-- `by_answer`: yes, no, or neither.
use mathlib.Core.Path.{refl}
use Rattle.row_shown.specs.Cells.{answer_yes, answer_no, answer_none}
use Rattle.std.proofs.Common.{rules}
use Rattle.row_shown.proofs.by_answer.Goals as goal

pub returns-in-1 : goal.returns-in-1
returns-in-1 c = answer_yes c.args.x c.scalar.result c.in-1.is refl c.scalar.ensures

pub returns-in-2 : goal.returns-in-2
returns-in-2 c = answer_no c.args.x c.scalar-in-2.result c.in-2.is refl c.scalar-in-2.ensures

pub returns-in_default : goal.returns-in_default
returns-in_default c =
    answer_none c.args.x c.plain.result (search rules) (search rules) c.plain.ensures
