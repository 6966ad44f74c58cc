-- `sheet::answer`: the buffer has room for a line before each step, and the measure is what is left of the chunk.
use Rattle.std.proofs.Common.{◌≤◌, ◌-◌, length}
use Rattle.sheet.specs.Steps.{line_limit}
use Rattle.sheet.proofs.answer.Given as goal

abbrev pub invariant-loop-s : goal.invariant-loop-s
invariant-loop-s l = line_limit ≤ length l.out

abbrev pub decreases-loop-s : goal.decreases-loop-s
decreases-loop-s l = length l.chunk - l.s.at
