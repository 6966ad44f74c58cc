-- Each goal is a step of the walk, from the last operand to the first, or of the expression by its root.
use Rattle.std.proofs.Common.{arith}
use Rattle.evaluator.specs.Valued.{going_first, going_on, going_done, by_operands}
use Rattle.evaluator.proofs.lent.Lent.+gather_part_value.Goals as goal

pub gather-loop-k-init : goal.gather-loop-k-init
gather-loop-k-init t c = going_first _ _ _ _ _ _ c.none-o.ensures

pub gather-loop-k-preserved : goal.gather-loop-k-preserved
gather-loop-k-preserved t c =
    going_on _ _ _ _ _ _ _ _ _ _ _ c.loop-k-test.true c.loop-k.invariant c.part_value-v.ensures c.put-o.ensures c.back-q.ensures

pub gather-returns : goal.gather-returns
gather-returns t c = going_done _ _ _ _ _ _ _ _ c.loop-k-test.false c.loop-k.invariant

pub part_value-returns : goal.part_value-returns
part_value-returns t c =
    by_operands _ _ _ _ _ _ _ _ c.code-kind.ensures (λ h. absurd (omega (arith, h, c.if-kind-lt-LIST.false))) c.count-n.ensures c.gather-o.ensures c.compound.ensures
