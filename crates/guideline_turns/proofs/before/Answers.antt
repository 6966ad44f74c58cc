-- `before`: by the first token.
use Rattle.std.proofs.Common.{ap}
use Rattle.guideline_rows.specs.Flat.{front, shape}
use Rattle.guideline_turns.specs.TurnLaws.{by_kind, before_assignment, opening_passes}
use Rattle.guideline_turns.proofs.before.Goals as goal

pub returns-then-kind_at-eq-LEFT_PARENTHESIS : goal.returns-then-kind_at-eq-LEFT_PARENTHESIS
returns-then-kind_at-eq-LEFT_PARENTHESIS c =
    rw c.on.ensures (by_kind c.kind_at.result c.kind_at.ensures (ap (shape front) c.if-kind_at-eq-LEFT_PARENTHESIS.true) (opening_passes c.requires.0 _ _ c.requires.1))

pub returns-else-kind_at-eq-LEFT_PARENTHESIS : goal.returns-else-kind_at-eq-LEFT_PARENTHESIS
returns-else-kind_at-eq-LEFT_PARENTHESIS c = by_kind c.kind_at.result c.kind_at.ensures (before_assignment c.kind_at.result c.if-kind_at-eq-LEFT_PARENTHESIS.false) c.assignment.ensures
