-- `time`: the sign of a time, and the number.
use Rattle.digits.specs.AppendsLaws.{append_then}
use Rattle.transcript.proofs.rows.time.Goals as goal

pub returns : goal.returns
returns c = append_then c.byte-p.ensures c.number.ensures
