-- `answer_asked`: none yet, one field more, and all.
use Rattle.std.proofs.Common.{◌≡◌, ◌||◌, ◌∙◌, arith}
use Rattle.season.specs.Series.{none_yet}
use Rattle.season.specs.SeriesLaws.{more_as, all_many}
use Rattle.season.proofs.fields.answer_asked.Goals as goal
use Rattle.season.proofs.fields.answer_asked.Goals.{then-any, else-any}

pub loop-i-init : goal.loop-i-init
loop-i-init c = none_yet

pub loop-i-preserved : goal.loop-i-preserved
loop-i-preserved c =
    more_as c.loop-i.invariant c.answer_one-one.ensures
    (elim c.if-any.branch as (λ _. c.if-any.any ≡ (c.loop-i.any || c.answer_one-one.result)) [ then-any w ↦ rw w.if-any.true (w.any-is ∙ w.if-any.true) | else-any w ↦ rw w.if-any.false w.any-is ])

pub returns : goal.returns
returns c = all_many (omega arith) c.loop-i.invariant
