-- `output::step` meets its contract: one law for each way that `take` goes.
use Rattle.std.proofs.Common.{arith}
use Rattle.sheet.specs.StepsLaws.{ends, goes_on}
use Rattle.sheet.proofs.output.step.Goals as goal

pub returns-then-ended : goal.returns-then-ended
returns-then-ended c = ends c.take-at.ensures c.if-ended.true c.write_line-o.ensures c.next.ensures

pub returns-else-ended : goal.returns-else-ended
returns-else-ended c = let r = c.requires in goes_on c.take-at.ensures c.args.out.now (omega arith) c.if-ended.false
