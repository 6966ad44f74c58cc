-- `refused`: one piece behind the other.
use Rattle.digits.specs.AppendsLaws.{append_then}
use Rattle.transcript.proofs.rows.refused.Goals as goal

pub returns : goal.returns
returns c = append_then c.word-p.ensures (append_then c.next_number-q.ensures c.next_number.ensures)
