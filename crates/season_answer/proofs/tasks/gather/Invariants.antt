-- `gather`: the names of the tasks before the index are appended, and they have room.
use Rattle.std.proofs.Common.{◌≤◌, length}
use Rattle.digits.specs.Appends.{Appends}
use Rattle.season_answer.specs.Fields.{reached_names}
use Rattle.season_answer.proofs.tasks.gather.Given as goal

abbrev pub invariant-loop-t : goal.invariant-loop-t
invariant-loop-t l = 2080 ≤ length l.initial.names → Appends l.initial.names l.names 0 l.p (reached_names l.plan l.texts l.state l.t)
