-- `refused_line`: the refusal, and the end of the line.
use Rattle.digits.specs.AppendsLaws.{append_then}
use Rattle.transcript.proofs.replies.refused_line.Goals as goal

pub returns : goal.returns
returns c = append_then c.refused-p.ensures c.byte.ensures
