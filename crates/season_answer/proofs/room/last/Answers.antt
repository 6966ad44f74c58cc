-- `last`: the field, and the newline.
use Rattle.digits.specs.AppendsLaws.{append_then}
use Rattle.season_answer.proofs.room.last.Goals as goal

pub returns : goal.returns
returns c = append_then c.put-p.ensures c.byte.ensures
