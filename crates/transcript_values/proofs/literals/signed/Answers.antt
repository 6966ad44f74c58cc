-- `signed`: one thing, and then the other.
use Rattle.digits.specs.AppendsLaws.{append_then}
use Rattle.transcript_values.proofs.literals.signed.Goals as goal

pub returns : goal.returns
returns c = append_then c.byte-p.ensures c.integer.ensures
