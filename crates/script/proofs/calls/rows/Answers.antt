-- `rows`: the end of its line.
use Rattle.script.specs.declared.calls.Call.TheVariants.{Rows}
use Rattle.script.specs.PlacesLaws.{ends_at}
use Rattle.script.proofs.calls.rows.Goals as goal

pub returns : goal.returns
returns c = ends_at Rows c.behind.ensures
