-- `next`: the cycle, and then an exception, or what is decided after it.
use Rattle.std.proofs.Common.{ap}
use Rattle.running.specs.declared.Turn.{Turn}
use Rattle.running.specs.Run.{next_exception, next_decided, decided_cycles}
use Rattle.running.proofs.next.Goals as goal

pub returns-then-cell-ne0 : goal.returns-then-cell-ne0
returns-then-cell-ne0 c =
    let a = c.args in
    (next_exception a.bound a.turn.lent a.x.now a.f.now a.w a.b.now a.s.now a.asked.cells a.asked.n a.turn.cycles c.enact.new.b c.enact.new.s c.enact.ensures.cycled c.enact.ensures.elsewhere c.cell.ensures a.asked c.if-cell-ne0.true c.ended.ensures, ap (λ (u : Turn). u.cycles) c.ended.ensures)

pub returns-else-cell-ne0 : goal.returns-else-cell-ne0
returns-else-cell-ne0 c =
    let a = c.args in (
      next_decided a.bound a.turn.lent a.x.now a.f.now a.w a.b.now a.s.now a.asked.cells a.asked.n a.turn.cycles c.enact.new.b c.enact.new.s c.enact.ensures.cycled c.enact.ensures.elsewhere c.cell.ensures c.ask.result c.if-cell-ne0.false c.ask.ensures.few c.ask.ensures.asked_now c.decide.ensures,
      decided_cycles c.decide.ensures,
    )
