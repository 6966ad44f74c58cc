-- `judge`: by the reply of reading.
use Rattle.std.proofs.lemmas.Result.{err_from_is_err_and}
use Rattle.answering.specs.Laws.{turned_away, went_on}
use Rattle.answering.proofs.judge.Goals as goal

pub returns-in_err-n : goal.returns-in_err-n
returns-in_err-n c = let p = err_from_is_err_and c.from_residual.result c.from_residual.ensures.1 in rw (p.1, p.2) (turned_away c.read.ensures c.in_err-n.was)

pub returns : goal.returns
returns c = went_on c.read.ensures c.in_ok-n.was c.named.ensures
