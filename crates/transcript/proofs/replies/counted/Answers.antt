-- `counted`: one piece behind the other.
use Rattle.digits.specs.AppendsLaws.{append_then}
use Rattle.transcript.proofs.replies.counted.Goals as goal

pub returns : goal.returns
returns c = append_then (append_then c.word-p.ensures c.next_number-q.ensures) c.byte.ensures
