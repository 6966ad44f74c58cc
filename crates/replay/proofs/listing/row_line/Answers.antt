-- `row_line`: the line of the row, where there is room.
use Rattle.replay.specs.RowsLaws.{from_room}
use Rattle.replay.proofs.listing.row_line.Goals as goal

pub returns : goal.returns
returns c = from_room c.args.o c.room-from.ensures c.row.ensures
