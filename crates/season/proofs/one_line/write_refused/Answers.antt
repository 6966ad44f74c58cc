-- `write_refused`: no values, and then the refusal.
use Rattle.digits.specs.AppendsLaws.{append_then}
use Rattle.season.proofs.one_line.write_refused.Goals as goal

pub returns : goal.returns
returns c = append_then c.blanks-p.ensures c.refused.ensures
