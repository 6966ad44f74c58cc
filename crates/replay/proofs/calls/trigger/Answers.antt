-- `trigger`: the first n of at least n bytes are n.
use Rattle.std.proofs.Common.{refl, arith}
use Rattle.replay.specs.Calls.{too_few, sent}
use Rattle.replay.proofs.calls.trigger.Goals as goal

pub returns-then-bytes-n : goal.returns-then-bytes-n
returns-then-bytes-n c = too_few (omega arith) refl refl

pub returns : goal.returns
returns c = sent (omega arith) c.trigger.result c.trigger.ensures c.replied.ensures
