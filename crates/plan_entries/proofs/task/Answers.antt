-- `task`: the five entries, one by one.
use mathlib.Core.Path.{refl, ap, ◌∙◌}
use Prim.Native.Nat.{ℕ, ◌+◌}
use native.Mathlib.Omega.{arith}
use mathlib.Core.Bool.{cond}
use lib.Dec.{eqb}
use Rattle.row_tests.specs.Table.{cell_of}
use Rattle.plan.specs.Writes.{task_count, class, first_source, first_assignment, name}
use Rattle.plan_entries.specs.Turns.{putting, few_tasks, few_sources, few_assignments}
use Rattle.plan_entries.proofs.task.Goals as goal

pub returns : goal.returns
returns c = λ n b h m q.
    let a = c.args in
    let s = h.stands in
    let l = few_tasks h in
    let e = c.more.ensures l in
    putting c.put-5.ensures name refl refl s.tasks (c.name_of.ensures ∙ ap (λ (t : ℕ). cond (eqb t 0) 0 (cell_of a.rows.now a.k 2)) s.tasks)
    (putting c.put-4.ensures first_assignment refl refl s.tasks (c.short-3.ensures (let z = few_assignments h in omega arith) ∙ s.assignments)
    (putting c.put-3.ensures first_source refl refl s.tasks (c.short-2.ensures (let z = few_sources h in omega arith) ∙ s.sources)
    (putting c.put-2.ensures class refl refl s.tasks refl
    (putting c.put.ensures task_count refl refl refl (c.short.ensures (omega arith) ∙ e ∙ ap (λ (t : ℕ). t + 1) s.tasks) q))))
