-- `set_time`: by its three cases.
use Rattle.std.proofs.Common.{rules}
use Rattle.clock.specs.Time.{time_unready, time_beyond, time_set}
use Rattle.clock.proofs.set_time.Goals as goal

pub returns-then-not-ready : goal.returns-then-not-ready
returns-then-not-ready c = search (rules, time_unready)

pub returns-then-time-gt-LIMIT : goal.returns-then-time-gt-LIMIT
returns-then-time-gt-LIMIT c = search (rules, time_beyond)

pub returns : goal.returns
returns c = search (rules, time_set)
