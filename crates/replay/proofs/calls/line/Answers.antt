-- `line`: its call is answered where the buffer has room.
use Rattle.replay.specs.CallsLaws.{line_answered}
use Rattle.replay.proofs.calls.line.Goals as goal

pub returns : goal.returns
returns c = line_answered c.line_at-l.ensures c.room-from.ensures c.answer-p.ensures
