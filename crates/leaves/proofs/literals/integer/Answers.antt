-- `integer`: what stands behind the sign, and the sign.
use Rattle.parts.specs.Texts.{cells}
use Rattle.leaves.specs.Numbers as N
use Rattle.leaves.proofs.literals.integer.Goals as goal

pub returns : goal.returns
returns c =
    let u = c.unsigned-s.ensures in
    rw (c.load_of.ensures, c.digits.ensures.0, u.0, u.2) (N.signed_is (N.digits 0) (cells c.args.text.now c.args.at c.args.n))
