-- `time`: its number.
use Rattle.std.proofs.Common.{ap}
use Rattle.script.specs.Places.{time_by}
use Rattle.script.proofs.calls.time.Goals as goal

pub returns : goal.returns
returns c = ap time_by c.number_at-seconds.ensures
