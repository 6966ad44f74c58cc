-- `put`: what stands at the i-th place.
use Rattle.std.proofs.Common.{refl}
use Rattle.values.proofs.Lists.{stored}
use Rattle.values.proofs.list.put.Goals as goal

pub returns : goal.returns
returns c = let a = c.args in record { size = refl; means = λ bs. stored bs a.l.n a.l.items a.i a.s }
