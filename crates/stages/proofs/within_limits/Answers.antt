-- `within_limits`: by what the walk finds, and the place that is past a limit.
use Rattle.stages.specs.JudgedLaws.{past_limit, all_within}
use Rattle.stages.proofs.within_limits.Goals as goal

pub returns-in-Some : goal.returns-in-Some
returns-in-Some c =
    past_limit c.short-short.ensures c.walk-w.ensures c.in-Some.place c.in-Some.ensures c.walk-w.auto.rows c.walk-w.auto.cells c.walk-w.auto.bytes c.blank.ensures

pub returns-in-None : goal.returns-in-None
returns-in-None c =
    all_within c.short-short.ensures c.walk-w.ensures c.in-None.ensures c.walk-w.auto.rows c.walk-w.auto.cells c.walk-w.auto.bytes
