-- `row`: its three numbers.
use Rattle.script.specs.PlacesLaws.{row_is}
use Rattle.script.proofs.calls.row.Goals as goal

pub returns : goal.returns
returns c = row_is c.args.s.now c.number_at-kind.ensures c.number_at-component.ensures c.number_at-property.ensures
