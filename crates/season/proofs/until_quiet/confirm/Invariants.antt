-- `confirm`: the tasks before the index are confirmed, one after the other.
use Rattle.season.specs.UntilQuiet.{AllConfirmed}
use Rattle.season.proofs.until_quiet.confirm.Given as goal

abbrev pub invariant-loop-t : goal.invariant-loop-t
invariant-loop-t l = AllConfirmed l.plan l.initial.state l.t l.state l.any
