-- `after`: by the first token.
use Rattle.std.proofs.Common.{ap, arith}
use Rattle.guideline_rows.specs.Flat.{behind, shape}
use Rattle.guideline_turns.specs.TurnLaws.{by_kind, behind_and, behind_last, closing_passes, going_on_passes, finish_passes}
use Rattle.guideline_turns.proofs.after.Goals as goal
use Rattle.guideline_turns.proofs.after.Goals.{in-77, in-3, in_default}

pub returns : goal.returns
returns c = λ k u h. rw c.on.ensures (elim c.match-kind_at.branch [
  | in-77 w ↦ rw w.mode-is (by_kind c.kind_at.result c.kind_at.ensures (ap (shape behind) w.in-77.is) (closing_passes c.requires k u h))
  | in-3 w ↦ rw w.mode-is (by_kind c.kind_at.result c.kind_at.ensures (behind_and c.kind_at.result (λ z. omega arith) w.in-3.is) (going_on_passes c.requires k u h))
  | in_default w ↦ rw w.mode-is (by_kind c.kind_at.result c.kind_at.ensures (behind_last c.kind_at.result (λ z. omega arith) (λ z. omega arith)) (finish_passes c.requires k u h))
])
