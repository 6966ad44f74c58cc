-- `three`: by how many digits there are.
use Rattle.std.proofs.Common.{arith, sym}
use Rattle.leaves.specs.Cells.{three_more}
use Rattle.leaves.proofs.literals.three.Goals as goal

pub returns-in_default : goal.returns-in_default
returns-in_default c =
    let a = c.args in
    (rw (c.digit-in_default.ensures.0, c.digit-in_default-2.ensures.0, c.digit-in_default-3.ensures.0) (sym (three_more a.text.now a.at a.n (omega arith))), omega arith)
