-- `heading`: one part behind the other.
use Rattle.digits.specs.AppendsLaws.{append_then}
use Rattle.season_answer.proofs.first_line.heading.Goals as goal

pub returns : goal.returns
returns c = append_then (append_then (append_then (append_then c.labels-p.ensures c.items-q.ensures) c.field-r.ensures) c.field-s.ensures) c.last.ensures
