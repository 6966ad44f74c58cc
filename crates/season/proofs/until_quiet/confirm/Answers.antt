-- `confirm`: none yet, one task more, and all.
use Rattle.std.proofs.Common.{◌≡◌, ◌||◌, ◌∙◌, arith}
use Rattle.season.specs.UntilQuiet.{none_yet}
use Rattle.season.specs.UntilQuietLaws.{more_confirmed, all_tasks}
use Rattle.season.proofs.until_quiet.confirm.Goals as goal
use Rattle.season.proofs.until_quiet.confirm.Goals.{then-any, else-any}

pub loop-t-init : goal.loop-t-init
loop-t-init c = none_yet

pub loop-t-preserved : goal.loop-t-preserved
loop-t-preserved c =
    more_confirmed c.loop-t.invariant c.confirm_one-one.ensures
    (elim c.if-any.branch as (λ _. c.if-any.any ≡ (c.loop-t.any || c.confirm_one-one.result)) [ then-any w ↦ rw w.if-any.true (w.any-is ∙ w.if-any.true) | else-any w ↦ rw w.if-any.false w.any-is ])

pub returns : goal.returns
returns c = all_tasks (omega arith) c.loop-t.invariant
