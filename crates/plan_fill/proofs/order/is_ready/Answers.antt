-- `is_ready`: the cases of the definition.
use Rattle.std.proofs.Common.{eq-eqb, ◌∙◌}
use Rattle.plan_fill.specs.Rounds.{ready_placed, ready_root, ready_under}
use Rattle.plan_fill.proofs.order.is_ready.Goals as goal

pub returns-then-byte-eq1 : goal.returns-then-byte-eq1
returns-then-byte-eq1 c = ready_placed c.args.f.now c.args.marks.now c.args.t c.byte.ensures c.if-byte-eq1.true

pub returns-then-p-eq0 : goal.returns-then-p-eq0
returns-then-p-eq0 c = eq-eqb c.number-p.result 0 c.if-p-eq0.true ∙ ready_root c.args.f.now c.args.marks.now c.args.t c.byte.ensures c.if-byte-eq1.false c.number-p.ensures c.if-p-eq0.true

pub returns-else-p-eq0 : goal.returns-else-p-eq0
returns-else-p-eq0 c = ready_under c.args.f.now c.args.marks.now c.args.t c.byte.ensures c.if-byte-eq1.false c.number-p.ensures c.if-p-eq0.false c.byte-else-p-eq0.ensures
