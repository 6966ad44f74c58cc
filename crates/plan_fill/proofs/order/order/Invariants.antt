-- `order`: the places up to k are filled.
use Rattle.plan_fill.specs.Rounds.{OrderTo}
use Rattle.plan_fill.proofs.order.order.Given as goal

abbrev pub invariant-loop-k : goal.invariant-loop-k
invariant-loop-k l = OrderTo l.m l.fn.f l.k l.f l.marks
