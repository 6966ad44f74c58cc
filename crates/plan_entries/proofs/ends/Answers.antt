-- `ends`: the one entry.
use mathlib.Core.Path.{ap, ◌∙◌}
use Prim.Native.Nat.{ℕ, ◌-◌}
use Rattle.plan_entries.specs.Turns.{putting}
use Rattle.plan_entries.proofs.ends.Goals as goal

pub returns : goal.returns
returns c = λ n b h p ea ez m q. putting c.put.ensures p ea ez (c.saturating_sub.ensures ∙ ap (λ (t : ℕ). t - 1) h.stands.tasks) c.cell.ensures q
