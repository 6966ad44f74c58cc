-- `add`: by the call of adding.
use Rattle.advise.proofs.giving.add.Goals as goal

pub returns-in-Done : goal.returns-in-Done
returns-in-Done c = (c.add.result, c.add.ensures)

pub returns-in-Refused : goal.returns-in-Refused
returns-in-Refused c = (c.add.result, c.add.ensures)
