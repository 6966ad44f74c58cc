-- `empty_text`: two quotes, and the separator.
use Rattle.digits.specs.AppendsLaws.{append_then}
use Rattle.season_answer.proofs.room.empty_text.Goals as goal

pub returns : goal.returns
returns c = append_then c.quoted-p.ensures c.byte.ensures
