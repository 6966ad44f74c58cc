-- `replay`: by the test whether it is a script.
use mathlib.Core.Path.{refl, sym, ◌∙◌}
use Rattle.paper_expressions.proofs.Laws.Tests.{contra}
use Rattle.replay.proofs.scripts.replay.Goals as goal

pub returns-then-is_script : goal.returns-then-is_script
returns-then-is_script c = (
  sym c.if-is_script.true ∙ c.is_script.ensures,
  λ e. record { answers = _; begun = c.answers-o.ensures; size = c.word-p.result; closed = c.word-p.ensures },
  λ e. contra (sym e),
)

pub returns : goal.returns
returns c = (c.no_script.ensures ∙ sym c.if-is_script.false ∙ c.is_script.ensures, λ e. contra (sym c.no_script.ensures ∙ e), λ e. refl)
