-- `by_any`: before each turn one is looked for from the task on.
use Rattle.std.proofs.Common.{◌≡◌, ◌-◌}
use Rattle.asked.specs.Asked.{any_from, waits_for}
use Rattle.asked.proofs.by_any.Given as goal

abbrev pub invariant-loop-t : goal.invariant-loop-t
invariant-loop-t l = any_from (waits_for l.plan l.state l.d) l.t (32 - l.t) ≡ any_from (waits_for l.plan l.state l.d) 0 32
