-- `tell`: a task without a mark, or with one.
use Rattle.names.proofs.VerdictLaws.{tell_yes, tell_no}
use Rattle.names.proofs.walk.tell.Goals as goal

pub returns-then-byte-eq-NONE : goal.returns-then-byte-eq-NONE
returns-then-byte-eq-NONE c = let a = c.args in tell_yes a.rows.now a.tasks.now a.marks.now a.k a.best c.byte.ensures c.if-byte-eq-NONE.true c.number.ensures c.place.ensures c.nearer.ensures

pub returns : goal.returns
returns c = let a = c.args in tell_no a.rows.now a.tasks.now a.marks.now a.k a.best c.byte.ensures c.if-byte-eq-NONE.false
