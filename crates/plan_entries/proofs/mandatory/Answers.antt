-- `mandatory`: the one entry.
use mathlib.Core.Path.{refl, ap, ◌∙◌}
use Prim.Native.Nat.{ℕ, ◌-◌}
use Rattle.plan.specs.Writes.{mandatory}
use Rattle.plan_entries.specs.Turns.{putting}
use Rattle.plan_entries.proofs.mandatory.Goals as goal

pub returns : goal.returns
returns c = λ n b h m q. putting c.put.ensures mandatory refl refl (c.saturating_sub.ensures ∙ ap (λ (t : ℕ). t - 1) h.stands.sources) c.cell.ensures q
