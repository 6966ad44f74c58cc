-- `field`: the field, and the separator.
use Rattle.digits.specs.AppendsLaws.{append_then}
use Rattle.season_answer.proofs.room.field.Goals as goal

pub returns : goal.returns
returns c = append_then c.put-p.ensures c.byte.ensures
