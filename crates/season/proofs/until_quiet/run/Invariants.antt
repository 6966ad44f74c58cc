-- `run`: it went on behind each run before this one, and the cycles of a run fit 32 bits, so those of all are no more than their number times that.
use Rattle.std.proofs.Common.{◌*◌, ◌≤◌}
use Rattle.season.specs.UntilQuiet.{line, WentOn}
use Rattle.season.proofs.until_quiet.run.Given as goal

abbrev pub invariant-loop-n : goal.invariant-loop-n
invariant-loop-n l =
    (l.cycles ≤ l._n * 4294967295)
    × WentOn l.parts l.plan l.waits (line l.columns l.many l.kept l.ends l.confirms) l.initial.texts l.initial.state l._n l.texts l.state l.cycles
