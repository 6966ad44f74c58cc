-- `hush`: no row is hushed at first, and then one more.
use Rattle.advise.specs.RowLaws.{none_hushed, one_hushed}
use Rattle.advise.proofs.done.hush.Goals as goal

pub loop-i-init : goal.loop-i-init
loop-i-init c = none_hushed _ _

pub loop-i-preserved : goal.loop-i-preserved
loop-i-preserved c = one_hushed c.loop-i.invariant c.hush_row.ensures
