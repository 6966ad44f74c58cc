-- `next`: by whether it is such an action, and whether a name stands there already.
use Prim.Native.Nat.{ℕ}
use mathlib.Core.Path.{ap, sym, ◌∙◌}
use Rattle.parts.specs.Texts.{text_at_fn}
use Rattle.digits.specs.AppendsLaws.{append_then, appends_as}
use Rattle.season_answer.specs.FieldsLaws.{not_reached, reached_first, reached_more, append_first}
use Rattle.season_answer.proofs.tasks.next.Goals as goal

pub returns-then-not-is_reached : goal.returns-then-not-is_reached
returns-then-not-is_reached c =
    let a = c.args in
    λ out e h. not_reached a.plan.now a.texts.now a.state.now a.t c.is_reached.ensures c.if-not-is_reached.true h

pub returns-then-o-eq0 : goal.returns-then-o-eq0
returns-then-o-eq0 c =
    let a = c.args in
    λ out e h.
    reached_first a.plan.now a.texts.now a.state.now a.t c.is_reached.ensures c.if-not-is_reached.false (sym e ∙ c.if-o-eq0.true)
    (append_first (sym e ∙ c.if-o-eq0.true) h (appends_as (ap (λ (k : ℕ). text_at_fn a.texts.now k) (sym c.cell-h.ensures)) c.name.ensures))

pub returns : goal.returns
returns c =
    let a = c.args in
    λ out e h.
    reached_more a.plan.now a.texts.now a.state.now a.t c.is_reached.ensures c.if-not-is_reached.false (λ z. c.if-o-eq0.false (e ∙ z))
    (append_then (append_then h c.word-p.ensures) (appends_as (ap (λ (k : ℕ). text_at_fn a.texts.now k) (sym c.cell-h.ensures)) c.name-2.ensures))
