-- `component`: one piece behind the other.
use Rattle.digits.specs.AppendsLaws.{append_then}
use Rattle.transcript.proofs.rows.component.Goals as goal

pub returns : goal.returns
returns c = append_then (append_then (append_then c.byte-p.ensures c.number-q.ensures) c.byte-r.ensures) c.number.ensures
