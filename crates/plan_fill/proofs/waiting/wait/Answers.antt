-- `wait`: a schedule constraint, or another row.
use Rattle.plan_fill.specs.Waiting.{waits_not, waits_one}
use Rattle.plan_fill.proofs.waiting.wait.Goals as goal

pub returns-then-kind-eq-SCHEDULE_CONSTRAINT : goal.returns-then-kind-eq-SCHEDULE_CONSTRAINT
returns-then-kind-eq-SCHEDULE_CONSTRAINT c =
    let a = c.args in
    waits_one a.rows.now a.bytes.now a.tasks.now a.m a.k a.c a.w c.kind.ensures c.if-kind-eq-SCHEDULE_CONSTRAINT.true c.handle.ensures c.find.ensures c.set.ensures

pub returns-else-kind-eq-SCHEDULE_CONSTRAINT : goal.returns-else-kind-eq-SCHEDULE_CONSTRAINT
returns-else-kind-eq-SCHEDULE_CONSTRAINT c =
    let a = c.args in
    waits_not a.rows.now a.bytes.now a.tasks.now a.m a.k a.c a.w c.kind.ensures c.if-kind-eq-SCHEDULE_CONSTRAINT.false
