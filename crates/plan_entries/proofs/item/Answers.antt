-- `item`: the three entries, one by one.
use mathlib.Core.Path.{refl, ap, ◌∙◌}
use Prim.Native.Nat.{ℕ, ◌+◌}
use native.Mathlib.Omega.{arith}
use Rattle.plan.specs.Writes.{item_count, item_name, item_type}
use Rattle.plan_entries.specs.Turns.{putting, few_items}
use Rattle.plan_entries.proofs.item.Goals as goal

pub returns : goal.returns
returns c = λ n b h m q.
    let s = h.stands in
    let l = few_items h in
    let e = c.more.ensures l in
    putting c.put-3.ensures item_type refl refl s.items c.cell-2.ensures
    (putting c.put-2.ensures item_name refl refl s.items c.cell.ensures
    (putting c.put.ensures item_count refl refl refl (c.short.ensures (omega arith) ∙ e ∙ ap (λ (t : ℕ). t + 1) s.items) q))
