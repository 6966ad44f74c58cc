-- `review`: the rows of every task, where each pass marks what holds.
use Rattle.review.specs.Changes.{reviews}
use Rattle.review.proofs.review.Goals as goal

pub returns-clause-reviews : goal.returns-clause-reviews
returns-clause-reviews c =
    reviews _ _ _ _ _ _ _ _ _ _ _ _ _ _ _ c.starts-starts.ensures c.initialises-initialises.ensures c.terminated-ended.ensures c.discarded-discards.ensures c.completed-completes.ensures c.each.ensures.each_rows
