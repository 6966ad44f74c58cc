-- `run`: its two numbers.
use Rattle.script.specs.PlacesLaws.{run_is}
use Rattle.script.proofs.calls.run.Goals as goal

pub returns : goal.returns
returns c = run_is c.args.s.now c.number_at-bound.ensures c.number_at-lent.ensures
