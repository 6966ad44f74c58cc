-- `refused`: the word, and the number.
use Rattle.digits.specs.AppendsLaws.{append_then}
use Rattle.written.proofs.answers.refused.Goals as goal

pub returns : goal.returns
returns c = append_then c.word-p.ensures c.number.ensures
