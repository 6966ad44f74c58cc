-- `mark`: the one mark.
use Rattle.plan_fill.specs.Rounds.{placing_in, placing_out}
use Rattle.plan_fill.proofs.order.mark.Goals as goal

pub returns-then-t-marks : goal.returns-then-t-marks
returns-then-t-marks c = placing_in c.args.t c.args.marks.now c.if-t-marks.true

pub returns-else-t-marks : goal.returns-else-t-marks
returns-else-t-marks c = placing_out c.args.t c.args.marks.now c.if-t-marks.false
