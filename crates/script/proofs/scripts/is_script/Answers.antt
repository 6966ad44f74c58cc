-- `is_script`: the place behind a line decides whether the lines stop or go on.
use Rattle.std.proofs.Common.{arith, sym, ◌∙◌, ◌-◌, length}
use Rattle.script.specs.Scripts.{lines_past, line_stops, line_goes_on, from_front}
use Rattle.script.proofs.scripts.is_script.Goals as goal

pub loop-at-init : goal.loop-at-init
loop-at-init c = from_front c.args.s.now

pub returns-then-next-at : goal.returns-then-next-at
returns-then-next-at c = sym (line_stops c.args.s.now c.loop-at.at (omega arith) c.behind_line-next.ensures (omega arith)) ∙ c.loop-at.invariant

pub loop-at-preserved : goal.loop-at-preserved
loop-at-preserved c = sym (line_goes_on c.args.s.now c.loop-at.at (omega arith) c.behind_line-next.ensures (omega arith)) ∙ c.loop-at.invariant

pub returns : goal.returns
returns c = sym (lines_past c.args.s.now (length c.args.s.now - c.loop-at.at) c.loop-at.at (omega arith)) ∙ c.loop-at.invariant
