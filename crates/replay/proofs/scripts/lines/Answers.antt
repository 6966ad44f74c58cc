-- `lines`: none is answered, one line more, the first that is no call, and all of them.
use Rattle.std.proofs.Common.{refl, arith}
use Rattle.replay.specs.Scripts.{start, further, ended, stopped}
use Rattle.replay.proofs.scripts.lines.Goals as goal

pub loop-at-init : goal.loop-at-init
loop-at-init c = start

pub returns-then-a-at : goal.returns-then-a-at
returns-then-a-at c = stopped c.line-a.result c.loop-at.invariant (omega arith) c.line-a.ensures (omega arith) refl

pub loop-at-preserved : goal.loop-at-preserved
loop-at-preserved c = further c.line-a.result c.loop-at.invariant (omega arith) c.line-a.ensures (omega arith)

pub returns : goal.returns
returns c = ended c.loop-at.invariant (omega arith)
