-- `run_once`: how it ended and its cycles, by the reply.
use Rattle.season.specs.UntilQuietLaws.{ran_as}
use Rattle.season.proofs.until_quiet.run_once.Goals as goal

pub returns-in-Quiet : goal.returns-in-Quiet
returns-in-Quiet c = record { runs_once = ran_as c.run_alone.ensures c.in-Quiet.is c.told.ensures.0 c.told.ensures.1; few = c.told.ensures.2 }

pub returns-in-Bounded : goal.returns-in-Bounded
returns-in-Bounded c = record { runs_once = ran_as c.run_alone.ensures c.in-Bounded.is c.told-in-Bounded.ensures.0 c.told-in-Bounded.ensures.1; few = c.told-in-Bounded.ensures.2 }

pub returns-in-Exception : goal.returns-in-Exception
returns-in-Exception c = record { runs_once = ran_as c.run_alone.ensures c.in-Exception.is c.told-in-Exception.ensures.0 c.told-in-Exception.ensures.1; few = c.told-in-Exception.ensures.2 }

pub returns-in-Refused : goal.returns-in-Refused
returns-in-Refused c = record { runs_once = ran_as c.run_alone.ensures c.in-Refused.is c.told-in-Refused.ensures.0 c.told-in-Refused.ensures.1; few = c.told-in-Refused.ensures.2 }
