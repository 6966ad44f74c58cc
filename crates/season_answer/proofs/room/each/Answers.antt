-- `each`: no turn was, one more, and all.
use Rattle.std.proofs.Common.{arith}
use Rattle.season_answer.specs.FieldsLaws.{turn_none, turn_more, turn_all}
use Rattle.season_answer.proofs.room.each.Goals as goal

pub loop-i-init : goal.loop-i-init
loop-i-init g c = λ w law. turn_none w _ _ _

pub loop-i-preserved : goal.loop-i-preserved
loop-i-preserved g c = λ w law. turn_more (c.loop-i.invariant w law) (omega arith) (law _ _ _ _ _ (omega arith) c.one-p.ensures)

pub returns : goal.returns
returns g c = λ w law. turn_all (c.loop-i.invariant w law) (omega arith)
