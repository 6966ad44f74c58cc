-- `run`: no run yet, one more behind which it goes on, the one behind which it does not, and as many as there may be.
use Rattle.std.proofs.Common.{ap, not, arith}
use Rattle.season.specs.UntilQuiet.{no_run}
use Rattle.season.specs.UntilQuietLaws.{more_runs, stops_as, worn_as}
use Rattle.season.proofs.until_quiet.run.Goals as goal

pub loop-n-init : goal.loop-n-init
loop-n-init c = (omega arith, no_run)

pub overflow_add-cycles : goal.overflow_add-cycles
overflow_add-cycles c = omega (arith, c.run_once-e.ensures.few)

pub loop-n-preserved : goal.loop-n-preserved
loop-n-preserved c = (omega (arith, c.run_once-e.ensures.few), more_runs c.loop-n.invariant.1 c.run_once-e.ensures.runs_once c.goes_on.ensures (ap not c.if-not-goes_on.false))

pub returns-then-not-goes_on : goal.returns-then-not-goes_on
returns-then-not-goes_on c = stops_as c.loop-n.invariant.1 c.run_once-e.ensures.runs_once (omega arith) c.goes_on.ensures (ap not c.if-not-goes_on.true)

pub returns : goal.returns
returns c = worn_as (omega arith) c.loop-n.invariant.1
