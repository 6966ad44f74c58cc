-- `row`: one piece behind the other.
use Rattle.digits.specs.AppendsLaws.{append_then}
use Rattle.transcript.proofs.rows.row.Goals as goal

pub returns : goal.returns
returns c = append_then (append_then (append_then (append_then (append_then c.number-a.ensures c.next_number-b.ensures) c.next_number-c.ensures) c.byte-d.ensures) c.shown-e.ensures) c.byte.ensures
