-- `output::last` meets its contract: nothing is left, or one line.
use Rattle.std.proofs.Common.{arith}
use Rattle.sheet.specs.StepsLaws.{none_left, one_left}
use Rattle.sheet.proofs.output.last.Goals as goal

pub returns-then-s-eq0 : goal.returns-then-s-eq0
returns-then-s-eq0 c = let r = c.requires in none_left c.args.kept.now c.args.out.now c.args.s (omega arith) c.if-s-eq0.true

pub returns-else-s-eq0 : goal.returns-else-s-eq0
returns-else-s-eq0 c = let e = c.if-s-eq0.false in one_left (omega arith) c.write_line.ensures
