-- `real`: the sign, and then the magnitude.
use Rattle.paper_guideline.specs.Line.{with_point}
use Rattle.digits.specs.AppendsLaws.{append_then, appends_as}
use Rattle.digits.specs.Signed.{sign_first}
use Rattle.digits.proofs.signed.real.Goals as goal

pub returns : goal.returns
returns c = appends_as (sign_first with_point c.args.n.z) (append_then c.sign-p.ensures (rw c.magnitude.ensures at c.thousandths.ensures))
