-- `add_cells`: the number of the reply.
use mathlib.Core.Path.{sym, ap}
use Rattle.season.specs.Series.{number_of}
use Rattle.season.proofs.one_value.add_cells.Goals as goal

pub returns-in-Done : goal.returns-in-Done
returns-in-Done c = (c.add.result, c.add.ensures, sym (ap number_of c.in-Done.is))

pub returns-in-Refused : goal.returns-in-Refused
returns-in-Refused c = (c.add.result, c.add.ensures, sym (ap number_of c.in-Refused.is))
