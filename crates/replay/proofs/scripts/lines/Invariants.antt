-- `lines`: before each turn the lines up to a place are answered.
use Rattle.std.proofs.Common.{◌-◌, length}
use Rattle.replay.specs.Rows.{buffer}
use Rattle.replay.specs.Calls.{tables}
use Rattle.replay.specs.Scripts.{LinesAnswered}
use Rattle.replay.proofs.scripts.lines.Given as goal

abbrev pub invariant-loop-at : goal.invariant-loop-at
invariant-loop-at l =
    let i = l.initial in
    LinesAnswered l.s (tables i.parts i.plan i.waits i.texts i.state) (buffer i.out 0) l.at (tables l.parts l.plan l.waits l.texts l.state) (buffer l.out l.o)

abbrev pub decreases-loop-at : goal.decreases-loop-at
decreases-loop-at l = length l.s - l.at
