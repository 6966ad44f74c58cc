-- `all`: by the test whether reading the root is refused.
use Rattle.std.proofs.Common.{ℕ, sym, ap, ◌∙◌}
use Rattle.digits.specs.AppendsLaws.{appends_as}
use Rattle.transcript.specs.Answers.{refused_lined}
use Rattle.replay.specs.Rows.{refused, listed}
use Rattle.replay.proofs.listing.View.all.Goals as goal

pub returns-then-is_refused : goal.returns-then-is_refused
returns-then-is_refused c =
    refused c.read-root.result c.read-root.ensures (sym c.is_refused.ensures ∙ c.if-is_refused.true)
    (appends_as (ap (λ (n : ℕ). refused_lined n 0) (sym c.refusal.ensures)) c.refused_line.ensures)

pub returns-else-is_refused : goal.returns-else-is_refused
returns-else-is_refused c = listed c.read-root.result c.read-root.ensures (sym c.is_refused.ensures ∙ c.if-is_refused.false) c.listed.ensures
