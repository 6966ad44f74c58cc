-- `waiting`: one row more at each turn.
use Rattle.std.proofs.Common.{refl, arith}
use Rattle.plan_fill.specs.Waiting.{marked_none, waits_more, waits_all}
use Rattle.plan_fill.proofs.waiting.waiting.Goals as goal

pub loop-k-init : goal.loop-k-init
loop-k-init c = λ t. (refl, marked_none)

pub loop-k-preserved : goal.loop-k-preserved
loop-k-preserved c =
    let a = c.args in
    waits_more a.rows.now a.n a.bytes.now a.tasks.now a.m c.loop-k.k c.loop-k.invariant c.wait-v.ensures c.child-c.ensures

pub returns : goal.returns
returns c =
    let a = c.args in
    waits_all a.rows.now a.n a.bytes.now a.tasks.now a.m c.loop-k.k (omega arith) c.loop-k.invariant
