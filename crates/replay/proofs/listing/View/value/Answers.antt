-- `value`: what the row shows, and the end of the line.
use Rattle.digits.specs.AppendsLaws.{append_then}
use Rattle.replay.proofs.listing.View.value.Goals as goal

pub returns : goal.returns
returns c = record { row = c.read-row.result; reads = c.read-row.ensures; written = append_then c.shown-p.ensures c.byte.ensures }
