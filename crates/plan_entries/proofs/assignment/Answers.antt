-- `assignment`: the four entries; the item is that found, case aside.
use mathlib.Core.Path.{refl, ap, subst, ◌∙◌}
use Prim.Native.Nat.{ℕ, ◌-◌}
use native.Mathlib.Omega.{arith}
use mathlib.Core.Bool.{true}
use Rattle.row_names.specs.Flat.{is_data}
use Rattle.row_tests.specs.Table.{cell_of}
use Rattle.plan.specs.Writes.{target, assigned-end, assigned_by, assignment_count}
use Rattle.plan_cells.specs.Finds.{Finds, found_number}
use Rattle.plan_entries.specs.Turns.{putting, few_tasks, few_assignments, few_found}
use Rattle.plan_entries.proofs.assignment.Goals as goal

pub returns : goal.returns
returns c = λ n h t m q.
    let a = c.args in
    let s = h.stands in
    let l = few_assignments h in
    let w = few_tasks h in
    let i = found_number t a.bytes.now true (cell_of a.rows.now a.k 2) (subst (λ (z : ℕ). Finds a.rows.now a.bytes.now a.items.now a.d true z c.find-i.result) c.handle.ensures c.find-i.ensures) in
    let o = c.saturating_sub-t.ensures in
    let g = o ∙ ap (λ (j : ℕ). j - 1) s.tasks in
    let e = c.more.ensures l in
    let z = c.saturating_sub.ensures in
    let u = s.assignments in
    let v = s.assigned in
    putting c.put-4.ensures assignment_count refl refl g (c.short-3.ensures (omega arith) ∙ omega arith)
    (putting c.put-3.ensures assigned_by refl refl u (c.short-2.ensures (omega arith) ∙ g)
    (putting c.put-2.ensures assigned-end refl refl u c.cell.ensures
    (putting c.put.ensures target refl refl u (c.short.ensures (few_found h is_data _ i) ∙ i) q)))
