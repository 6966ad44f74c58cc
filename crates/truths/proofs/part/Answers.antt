-- `part`: what there is of it.
use Rattle.std.proofs.Common.{arith}
use Rattle.truths.specs.Part.{part_there}
use Rattle.truths.proofs.part.Goals as goal

pub returns : goal.returns
returns c =
    let a = c.args in
    part_there a.s.now a.a a.n c.min-from.result c.min-count.result (λ l. omega arith) (λ l. omega arith) (λ l. omega arith) (λ l. omega arith)
