-- `next_number`: one thing, and then the other.
use Rattle.digits.specs.AppendsLaws.{append_then}
use Rattle.transcript_values.proofs.buffer.next_number.Goals as goal

pub returns : goal.returns
returns c = append_then c.byte-p.ensures c.number.ensures
