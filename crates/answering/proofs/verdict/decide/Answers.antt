-- `decide`: by load's answer.
use Rattle.std.proofs.Common.{ℕ}
use Rattle.std.proofs.Math.ListN.{length-replicate}
use Rattle.std.proofs.lemmas.Result.{err_from_is_err_and}
use Rattle.answering.specs.DecidedLaws.{loaded, turned}
use Rattle.answering.proofs.verdict.decide.Goals as goal

pub returns-in_err-judge : goal.returns-in_err-judge
returns-in_err-judge c =
    let p = err_from_is_err_and c.from_residual.result c.from_residual.ensures.1 in
    rw (p.1, p.2) (turned c.judge.ensures (length-replicate {A = ℕ} 10920 0) (length-replicate {A = ℕ} 4096 0) (length-replicate {A = ℕ} 16384 0) c.in_err-judge.was)

pub returns : goal.returns
returns c = loaded c.judge.ensures (length-replicate {A = ℕ} 10920 0) (length-replicate {A = ℕ} 4096 0) (length-replicate {A = ℕ} 16384 0) c.in_ok-judge.was
