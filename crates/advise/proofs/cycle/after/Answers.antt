-- `after`: each reply is a case of the definition.
use mathlib.Core.Path.{sym, ap}
use Rattle.advise.specs.RunTold.{after_of}
use Rattle.advise.specs.RunLaws.{after_quiet, after_exception, after_refused, after_never}
use Rattle.advise.proofs.cycle.after.Goals as goal

pub returns-then-i-eq0 : goal.returns-then-i-eq0
returns-then-i-eq0 c = after_refused c.args.i c.in-Refused.is c.if-i-eq0.true

pub returns-in-Quiet : goal.returns-in-Quiet
returns-in-Quiet c = after_quiet c.args.i c.in-Quiet.is c.least.ensures.0

pub returns-in-Bounded : goal.returns-in-Bounded
returns-in-Bounded c = sym (ap (after_of c.args.i) c.in-Bounded.is)

pub returns-in-Exception : goal.returns-in-Exception
returns-in-Exception c = after_exception c.args.i c.in-Exception.is c.least-in-Exception.ensures.0

pub returns-else-i-eq0 : goal.returns-else-i-eq0
returns-else-i-eq0 c = after_never c.args.i c.in-Refused.is c.if-i-eq0.false
