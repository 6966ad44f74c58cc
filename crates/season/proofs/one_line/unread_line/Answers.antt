-- `unread_line`: one part behind the other.
use Rattle.digits.specs.AppendsLaws.{append_then}
use Rattle.season.proofs.one_line.unread_line.Goals as goal

pub returns : goal.returns
returns c = append_then (append_then c.no_labels-p.ensures c.blanks-q.ensures) c.unread.ensures
