-- `order`: one place more at each turn.
use Rattle.std.proofs.Common.{arith}
use Rattle.plan.specs.Writes.{parent}
use Rattle.plan_fill.specs.Rounds.{order_none, order_more, held_order}
use Rattle.plan_fill.proofs.order.order.Goals as goal

pub loop-k-init : goal.loop-k-init
loop-k-init c = order_none c.args.m c.args.f.now

pub loop-k-preserved : goal.loop-k-preserved
loop-k-preserved c =
    order_more c.args.m c.loop-k.k c.args.f.now c.loop-k.f _ c.loop-k.marks _ c.requires c.loop-k.invariant c.next-t.ensures c.mark.ensures c.placed.ensures c.put.ensures

pub returns : goal.returns
returns c = λ q h. held_order (q parent) c.args.m q c.loop-k.k (omega arith) (c.loop-k.invariant.1 q h).0
