-- `child`: the task found for a component, or the last one.
use Rattle.plan_cells.specs.Finds.{child_named, child_last}
use Rattle.plan_cells.proofs.found.child.Goals as goal

pub returns-then-kind-eq-COMPONENT : goal.returns-then-kind-eq-COMPONENT
returns-then-kind-eq-COMPONENT c =
    let a = c.args in
    child_named a.rows.now a.bytes.now a.tasks.now a.m a.k a.last c.kind.ensures c.if-kind-eq-COMPONENT.true c.handle.ensures c.find.ensures

pub returns-else-kind-eq-COMPONENT : goal.returns-else-kind-eq-COMPONENT
returns-else-kind-eq-COMPONENT c =
    let a = c.args in
    child_last a.rows.now a.bytes.now a.tasks.now a.m a.k a.last c.kind.ensures c.if-kind-eq-COMPONENT.false
