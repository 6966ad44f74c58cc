-- `named`: by what the test of names finds.
use Rattle.answering.specs.Laws.{well_named, ill_named}
use Rattle.answering.proofs.named.Goals as goal

pub returns-in-None : goal.returns-in-None
returns-in-None c = well_named c.check.result c.check.ensures c.in-None.is c.typed.ensures

pub returns-in-Some : goal.returns-in-Some
returns-in-Some c = ill_named c.check.result c.check.ensures c.in-Some.is c.blank.ensures
