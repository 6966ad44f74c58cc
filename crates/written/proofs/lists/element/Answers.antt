-- `element`: what stands between elements, and the scalar that was read.
use Rattle.digits.specs.AppendsLaws.{append_then}
use Rattle.written.proofs.lists.element.Goals as goal

pub returns : goal.returns
returns g c = append_then c.part-p.ensures (rw c.get.ensures at c.scalar.ensures)
