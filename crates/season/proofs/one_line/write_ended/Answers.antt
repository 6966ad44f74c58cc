-- `write_ended`: one part behind the other.
use Rattle.digits.specs.AppendsLaws.{append_then}
use Rattle.season.proofs.one_line.write_ended.Goals as goal

pub returns : goal.returns
returns c = append_then (append_then c.item_values-p.ensures c.reached-q.ensures) c.ended.ensures
