-- `ask`: the marks of the conditions, and then the review.
use Rattle.asking.specs.Asks.{asked}
use Rattle.asking.proofs.ask.Goals as goal

pub returns : goal.returns
returns c =
    asked _ _ _ _ _ _ _ _ _ _ _ _ c.all_allowed-pre.ensures c.all_allowed-wait.ensures c.all_ended-ends.ensures c.cell.ensures c.review.ensures.reviews c.review.ensures.few
