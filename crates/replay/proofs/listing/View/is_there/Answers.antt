-- `is_there`: by the row of the class.
use Rattle.std.proofs.Common.{sym}
use Rattle.replay.proofs.listing.View.is_there.Goals as goal

pub returns : goal.returns
returns c = record { row = c.read.result; reads = c.read.ensures; is = sym c.is_row.ensures }
