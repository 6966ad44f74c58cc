-- `unread`: one field behind the other.
use Rattle.digits.specs.AppendsLaws.{append_then}
use Rattle.season_answer.proofs.ends.unread.Goals as goal

pub returns : goal.returns
returns c = append_then (append_then c.nothing-p.ensures c.nothing-q.ensures) c.last.ensures
