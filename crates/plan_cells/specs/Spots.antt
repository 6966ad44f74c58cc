-- What the rows count behind one row more. By the definitions, field by field.
use Rattle.std.specs.Prelude.{ℕ, suc, ◌+◌, ◌<◌, ◌≡◌, Bool, cond}
use Rattle.std.proofs.Common.{ap, ◌∙◌, arith}
use Rattle.row_names.specs.Sheet.{task_kind}
use Rattle.row_names.specs.Flat.{is_data}
use Rattle.plan_cells.specs.declared.spot.Spot.{Spot}
use Rattle.plan.specs.Writes.{Outline, one_if, counted, is_source, is_assignment, tasks_before, items_before, sources_before, assignments_before, at_task, child}
use Rattle.plan_cells.specs.Finds.{counted_few}

-- what the rows before k count

pub record Stands (s : Outline) (k : ℕ) (at : Spot) : Type 0 where
  pub tasks : at.tasks ≡ tasks_before s k
  pub items : at.items ≡ items_before s k
  pub sources : at.sources ≡ sources_before s k
  pub assignments : at.assignments ≡ assignments_before s k
  pub sourced : at.sourced ≡ at_task s is_source k
  pub assigned : at.assigned ≡ at_task s is_assignment k
  pub child : at.child ≡ child s k

-- behind a row of the kind k
pub record Steps (at : Spot) (k c : ℕ) (r : Spot) : Type 0 where
  pub tasks : at.tasks < 65536 → r.tasks ≡ at.tasks + one_if (task_kind k)
  pub items : at.items < 65536 → r.items ≡ at.items + one_if (is_data k)
  pub sources : at.sources < 65536 → r.sources ≡ at.sources + one_if (is_source k)
  pub assignments : at.assignments < 65536 → r.assignments ≡ at.assignments + one_if (is_assignment k)
  pub sourced : r.sourced ≡ cond (task_kind k) at.sources at.sourced
  pub assigned : r.assigned ≡ cond (task_kind k) at.assignments at.assigned
  pub child : r.child ≡ c

pub stands_more : {s : Outline} {k : ℕ} {at r : Spot} {q c : ℕ} → k < 65536 → Stands s k at → Steps at q c r → q ≡ s.kind k → c ≡ child s (suc k) → Stands s (suc k) r
stands_more {s} {k} {at} {r} {q} {c} u p t eq ec = record {
  tasks = count task_kind p.tasks t.tasks;
  items = count is_data p.items t.items;
  sources = count is_source p.sources t.sources;
  assignments = count is_assignment p.assignments t.assignments;
  sourced = t.sourced ∙ since p.sources p.sourced;
  assigned = t.assigned ∙ since p.assignments p.assigned;
  child = t.child ∙ ec;
}
  where
    count : (f : ℕ → Bool) → {x y : ℕ} → x ≡ counted f s.kind k → (x < 65536 → y ≡ x + one_if (f q)) → y ≡ counted f s.kind k + one_if (f (s.kind k))
    count f {x} {y} e g =
        let z = counted_few f s.kind k in
        g (omega arith) ∙ ap (λ (j : ℕ). x + one_if (f j)) eq ∙ ap (λ (j : ℕ). j + one_if (f (s.kind k))) e

    since : {x y v w : ℕ} → x ≡ v → y ≡ w → cond (task_kind q) x y ≡ cond (task_kind (s.kind k)) v w
    since {x} {y} {v} {w} e f = ap (λ (j : ℕ). cond (task_kind j) x y) eq ∙ ap (λ (j : ℕ). cond (task_kind (s.kind k)) j y) e ∙ ap (λ (j : ℕ). cond (task_kind (s.kind k)) v j) f
