-- `judge`: a row with a flaw, or without.
use Rattle.names.proofs.VerdictLaws.{judges_yes, judges_no}
use Rattle.names.proofs.flaws.judge.Goals as goal

pub returns-then-flawed : goal.returns-then-flawed
returns-then-flawed c = let a = c.args in judges_yes a.rows.now a.n a.bytes.now a.tasks.now a.m a.items.now a.d a.j a.best c.flawed.ensures c.if-flawed.true c.spot.ensures c.nearer.ensures

pub returns-else-flawed : goal.returns-else-flawed
returns-else-flawed c = let a = c.args in judges_no a.rows.now a.n a.bytes.now a.tasks.now a.m a.items.now a.d a.j a.best c.flawed.ensures c.if-flawed.false
