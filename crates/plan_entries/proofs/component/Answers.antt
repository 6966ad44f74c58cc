-- `component`: the two entries; the class is that of the row found.
use mathlib.Core.Path.{refl, ap, ◌∙◌}
use Prim.Native.Nat.{ℕ}
use native.Mathlib.Omega.{arith}
use lib.Dec.{eqb}
use Rattle.row_tests.specs.Table.{cell_of}
use Rattle.plan.specs.Writes.{parent, confirms, answer}
use Rattle.plan_entries.specs.Turns.{putting, few_tasks}
use Rattle.plan_entries.proofs.component.Goals as goal

pub returns : goal.returns
returns c = λ b h t e m q.
    let a = c.args in
    let l = few_tasks h in
    let k = c.kind-class.ensures ∙ ap (λ (j : ℕ). cell_of a.rows.now j 0) (c.row.ensures a.rows.now b (cell_of a.rows.now a.k 2) t e) in
    putting c.put-2.ensures confirms refl refl e (c.confirms.ensures ∙ ap (λ (j : ℕ). answer (eqb j 1)) k)
    (putting c.put.ensures parent refl refl e (c.short.ensures (omega arith) ∙ h.stands.tasks) q)
