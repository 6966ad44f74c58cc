-- `write`: by the kind of the row.
use Rattle.std.proofs.Common.{refl, ap, arith}
use Rattle.plan.specs.Writes.{outline, sort_of, precondition, wait_condition, terminate}
use Rattle.plan_entries.specs.Turns.{of_sort, no_sort, child_here}
use Rattle.plan_entries.proofs.write.Goals as goal

pub returns-in-49 : goal.returns-in-49
returns-in-49 c = λ h t d e q p.
    let a = c.args in
    of_sort (outline a.rows.now a.n a.bytes.now) a.k c.kind.ensures (ap sort_of c.in-49.is) q (c.task.ensures a.n a.bytes.now h q p)

pub returns-in-1 : goal.returns-in-1
returns-in-1 c = λ h t d e q p.
    let a = c.args in
    of_sort (outline a.rows.now a.n a.bytes.now) a.k c.kind.ensures (ap sort_of c.in-1.is) q (c.task-in-1.ensures a.n a.bytes.now h q p)

pub returns-in-26 : goal.returns-in-26
returns-in-26 c = λ h t d e q p.
    let a = c.args in
    of_sort (outline a.rows.now a.n a.bytes.now) a.k c.kind.ensures (ap sort_of c.in-26.is) q (c.task-in-26.ensures a.n a.bytes.now h q p)

pub returns-in-18 : goal.returns-in-18
returns-in-18 c = λ h t d e q p.
    let a = c.args in
    of_sort (outline a.rows.now a.n a.bytes.now) a.k c.kind.ensures (ap sort_of c.in-18.is) q (c.item.ensures a.n a.bytes.now h q p)

pub returns-in-51 : goal.returns-in-51
returns-in-51 c = λ h t d e q p.
    let a = c.args in
    of_sort (outline a.rows.now a.n a.bytes.now) a.k c.kind.ensures (ap sort_of c.in-51.is) q (c.ends.ensures a.n a.bytes.now h precondition refl refl q p)

pub returns-in-70 : goal.returns-in-70
returns-in-70 c = λ h t d e q p.
    let a = c.args in
    of_sort (outline a.rows.now a.n a.bytes.now) a.k c.kind.ensures (ap sort_of c.in-70.is) q (c.ends-in-70.ensures a.n a.bytes.now h wait_condition refl refl q p)

pub returns-in-65 : goal.returns-in-65
returns-in-65 c = λ h t d e q p.
    let a = c.args in
    of_sort (outline a.rows.now a.n a.bytes.now) a.k c.kind.ensures (ap sort_of c.in-65.is) q (c.ends-in-65.ensures a.n a.bytes.now h terminate refl refl q p)

pub returns-in-66 : goal.returns-in-66
returns-in-66 c = λ h t d e q p.
    let a = c.args in
    of_sort (outline a.rows.now a.n a.bytes.now) a.k c.kind.ensures (ap sort_of c.in-66.is) q (c.trigger.ensures a.n a.bytes.now h q p)

pub returns-in-13 : goal.returns-in-13
returns-in-13 c = λ h t d e q p.
    let a = c.args in
    of_sort (outline a.rows.now a.n a.bytes.now) a.k c.kind.ensures (ap sort_of c.in-13.is) q (c.component.ensures a.bytes.now h t (child_here (outline a.rows.now a.n a.bytes.now) a.k c.kind.ensures c.in-13.is e) q p)

pub returns-in-64 : goal.returns-in-64
returns-in-64 c = λ h t d e q p.
    let a = c.args in
    of_sort (outline a.rows.now a.n a.bytes.now) a.k c.kind.ensures (ap sort_of c.in-64.is) q (c.terminal.ensures a.n a.bytes.now h q p)

pub returns-in-60 : goal.returns-in-60
returns-in-60 c = λ h t d e q p.
    let a = c.args in
    of_sort (outline a.rows.now a.n a.bytes.now) a.k c.kind.ensures (ap sort_of c.in-60.is) q (c.source.ensures a.n h d q p)

pub returns-in-35 : goal.returns-in-35
returns-in-35 c = λ h t d e q p.
    let a = c.args in
    of_sort (outline a.rows.now a.n a.bytes.now) a.k c.kind.ensures (ap sort_of c.in-35.is) q (c.mandatory.ensures a.n a.bytes.now h q p)

pub returns-in-81 : goal.returns-in-81
returns-in-81 c = λ h t d e q p.
    let a = c.args in
    of_sort (outline a.rows.now a.n a.bytes.now) a.k c.kind.ensures (ap sort_of c.in-81.is) q (c.assignment.ensures a.n h d q p)

pub returns-in_default : goal.returns-in_default
returns-in_default c = λ h t d e q p.
    let a = c.args in
    of_sort (outline a.rows.now a.n a.bytes.now) a.k c.kind.ensures (no_sort c.kind.result (omega arith) (omega arith) (omega arith) (omega arith) (omega arith) (omega arith) (omega arith) (omega arith) (omega arith) (omega arith) (omega arith) (omega arith) (omega arith)) q p
