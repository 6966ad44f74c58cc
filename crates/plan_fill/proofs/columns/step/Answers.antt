-- `step`: what the row writes, and what the rows then count.
use Rattle.std.proofs.Common.{arith}
use Rattle.plan_cells.specs.Spots.{stands_more}
use Rattle.plan_fill.proofs.columns.step.Goals as goal

pub returns : goal.returns
returns c = λ h t d.
    let e = c.child-c.ensures c.args.n t h.stands.child in
    let l = h.few in
    let u = h.below in
    (stands_more (omega arith) h.stands c.passed.ensures c.kind.ensures e, λ q p. c.write.ensures h t d e q p)
