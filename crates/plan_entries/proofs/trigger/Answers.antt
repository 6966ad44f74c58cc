-- `trigger`: the two entries.
use mathlib.Core.Path.{refl, ap, ◌∙◌}
use Prim.Native.Nat.{ℕ, ◌-◌}
use Rattle.plan.specs.Writes.{triggered, trigger}
use Rattle.plan_entries.specs.Turns.{putting}
use Rattle.plan_entries.proofs.trigger.Goals as goal

pub returns : goal.returns
returns c = λ n b h m q.
    let e = c.saturating_sub-t.ensures ∙ ap (λ (t : ℕ). t - 1) h.stands.tasks in
    putting c.put-2.ensures trigger refl refl e c.cell.ensures (putting c.put.ensures triggered refl refl e refl q)
