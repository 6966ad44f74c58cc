-- `is_script`: before each turn the lines from a place on decide what all decide.
use Rattle.std.proofs.Common.{◌≡◌, ◌-◌, length}
use Rattle.script.specs.Scripts.{lines_from, is_script}
use Rattle.script.proofs.scripts.is_script.Given as goal

abbrev pub invariant-loop-at : goal.invariant-loop-at
invariant-loop-at l = lines_from l.s (length l.s - l.at) l.at ≡ is_script l.s

abbrev pub decreases-loop-at : goal.decreases-loop-at
decreases-loop-at l = length l.s - l.at
