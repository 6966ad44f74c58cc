-- `text`: one thing, and then the other.
use Rattle.digits.specs.AppendsLaws.{append_then}
use Rattle.transcript_values.proofs.literals.text.Goals as goal

pub returns : goal.returns
returns c = append_then c.byte-p.ensures c.spelt.ensures
