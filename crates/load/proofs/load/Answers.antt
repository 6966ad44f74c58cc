-- `load`: by whether a table is short, and by load's answer.
use Rattle.std.proofs.Common.{sym, ◌∙◌}
use Rattle.load.specs.Loads.{lent}
use Rattle.load.specs.LoadsLaws.{taken, turned_away, too_short}
use Rattle.load.proofs.load.Goals as goal

pub returns-then-is_short : goal.returns-then-is_short
returns-then-is_short c =
    let a = c.args in
    too_short (lent a.rows.now a.parts.now a.plan.now a.waits.now a.texts.now a.state.now) c.refusal.result (sym c.is_short.ensures ∙ c.if-is_short.true) c.blank.ensures c.empty.ensures c.refusal.ensures

pub returns-in-Ok : goal.returns-in-Ok
returns-in-Ok c =
    let a = c.args in
    taken (lent a.rows.now a.parts.now a.plan.now a.waits.now a.texts.now a.state.now) (sym c.is_short.ensures ∙ c.if-is_short.false) c.judge.ensures c.in-Ok.is c.prepare.ensures

pub returns-in-Err : goal.returns-in-Err
returns-in-Err c =
    let a = c.args in
    turned_away (lent a.rows.now a.parts.now a.plan.now a.waits.now a.texts.now a.state.now) (sym c.is_short.ensures ∙ c.if-is_short.false) c.judge.ensures c.in-Err.is c.empty-in-Err.ensures
