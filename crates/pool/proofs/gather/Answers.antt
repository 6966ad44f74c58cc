-- `gather`: each turn moves one part more; what the parts hold then follows from the columns.
use Rattle.pool.specs.Columns.{moved_next}
use Rattle.pool.specs.Held.{gathered}
use Rattle.pool.proofs.gather.Goals as goal

pub loop-i-preserved : goal.loop-i-preserved
loop-i-preserved c = let l = c.loop-i in moved_next l.auto.i l.invariant c.move_text-p.ensures l.auto.bytes l.auto.cells

pub returns : goal.returns
returns c = let l = c.loop-i in gathered l.invariant l.auto.i-end c.loop-i-test.false
