-- `two_digits`: one, and then the other.
use Rattle.digits.specs.AppendsLaws.{append_then}
use Rattle.transcript_values.proofs.literals.two_digits.Goals as goal

pub returns : goal.returns
returns c = append_then (rw c.hexadecimal.ensures at c.byte-p.ensures) (rw c.hexadecimal-2.ensures at c.byte.ensures)
