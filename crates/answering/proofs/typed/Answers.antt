-- `typed`: by what the test of types finds.
use Rattle.answering.specs.Laws.{well_typed, ill_typed}
use Rattle.answering.proofs.typed.Goals as goal

pub returns-in-None : goal.returns-in-None
returns-in-None c = well_typed c.check.result c.check.ensures c.in-None.is

pub returns-in-Some : goal.returns-in-Some
returns-in-Some c = ill_typed c.check.result c.check.ensures c.in-Some.is c.blank.ensures
