-- `move_name`: a row without a name has none; the name of another is copied, if there is room.
use Rattle.std.proofs.Common.{refl}
use Rattle.guideline_walk.specs.TextLaws.{no_name, no_room, name_moved}
use Rattle.guideline_walk.proofs.texts.move_name.Goals as goal

pub returns-in_default : goal.returns-in_default
returns-in_default c = rw c.in_default.is no_name

pub returns-then-not-room : goal.returns-then-not-room
returns-then-not-room c = rw c.in-Some.is (no_room c.name_at-s.ensures c.if-not-room.true c.room.ensures)

pub returns : goal.returns
returns c = rw c.in-Some.is (name_moved c.name_at-s.ensures refl c.copy.ensures)
