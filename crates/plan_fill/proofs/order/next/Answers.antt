-- `next`: the first that is ready, or the end.
use Rattle.std.proofs.Common.{arith, below_more, sym, ◌∙◌}
use Rattle.plan.specs.Writes.{ready}
use Rattle.plan_cells.specs.Finds.{first_found, first_none}
use Rattle.plan_fill.specs.Rounds.{parents_in, placed_in}
use Rattle.plan_fill.proofs.order.next.Goals as goal

pub returns-then-is_ready : goal.returns-then-is_ready
returns-then-is_ready c =
    sym (first_found (ready (parents_in c.args.f.now) (placed_in c.args.marks.now)) c.args.m c.loop-t.t c.loop-t-test.true (sym c.is_ready.ensures ∙ c.if-is_ready.true) c.loop-t.invariant)

pub loop-t-preserved : goal.loop-t-preserved
loop-t-preserved c = below_more _ _ c.loop-t.invariant (sym c.is_ready.ensures ∙ c.if-is_ready.false)

pub returns : goal.returns
returns c = sym (first_none (ready (parents_in c.args.f.now) (placed_in c.args.marks.now)) c.args.m (λ i u. c.loop-t.invariant i (omega arith)))
