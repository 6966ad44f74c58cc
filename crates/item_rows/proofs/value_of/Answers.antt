-- `value_of`: what the two parts of the state show.
use mathlib.Core.Path.{ap₂, ◌∙◌}
use mathlib.Core.List.{List}
use Prim.Native.Nat.{ℕ}
use Rattle.evaluator.specs.Columns.{shown_at}
use Rattle.item_rows.proofs.value_of.Goals as goal

pub returns : goal.returns
returns c b = c.value.ensures b ∙ ap₂ (λ (tags nums : List ℕ). shown_at b tags nums c.args.d) c.part-tags.ensures c.part-nums.ensures
