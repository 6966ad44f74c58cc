-- `thousandths`: one thing after another.
use Rattle.digits.specs.AppendsLaws.{append_then}
use Rattle.digits.proofs.decimal.thousandths.Goals as goal

pub returns : goal.returns
returns c =
    append_then c.number-whole.ensures
    (append_then c.byte-point.ensures (append_then c.digit-first.ensures (append_then c.digit-second.ensures c.digit.ensures)))
