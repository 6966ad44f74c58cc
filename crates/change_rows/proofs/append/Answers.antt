-- `append`: no row at first, then one more each time.
use Rattle.std.proofs.Common.{set, ap, arith}
use Rattle.change_rows.specs.Numbers.{appended_none, appended_more}
use Rattle.change_rows.proofs.append.Goals as goal

pub loop-i-init : goal.loop-i-init
loop-i-init c = appended_none _ _

pub loop-i-preserved : goal.loop-i-preserved
loop-i-preserved c = appended_more _ _ _ _ _ (omega arith) (ap (set c.loop-i.rows c.loop-i.i) c.row_of.ensures) c.loop-i.invariant
