-- `confirm`: its number.
use Rattle.std.proofs.Common.{ap}
use Rattle.script.specs.Places.{confirm_by}
use Rattle.script.proofs.calls.confirm.Goals as goal

pub returns : goal.returns
returns c = ap confirm_by c.number_at-task.ensures
