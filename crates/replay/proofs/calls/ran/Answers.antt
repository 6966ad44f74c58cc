-- `ran`: each arm writes the line of its ending.
use mathlib.Core.Path.{ap}
use Rattle.digits.specs.AppendsLaws.{appends_as}
use Rattle.replay.specs.Calls.{ran_written}
use Rattle.replay.proofs.calls.ran.Goals as goal

pub returns-in-Quiet : goal.returns-in-Quiet
returns-in-Quiet c = appends_as (ap ran_written c.in-Quiet.is) c.counted.ensures

pub returns-in-Bounded : goal.returns-in-Bounded
returns-in-Bounded c = appends_as (ap ran_written c.in-Bounded.is) c.counted-in-Bounded.ensures

pub returns-in-Exception : goal.returns-in-Exception
returns-in-Exception c = appends_as (ap ran_written c.in-Exception.is) c.counted-in-Exception.ensures

pub returns-in-Refused : goal.returns-in-Refused
returns-in-Refused c = appends_as (ap ran_written c.in-Refused.is) c.refused_line.ensures
