-- `move_text`: a part without a text stays, one with a text is copied and its handle written, if there is room.
use Rattle.std.proofs.Common.{ap, ◌∙◌, sym}
use Rattle.pool.specs.Columns.{texted, no_room, moved_one}
use Rattle.pool.proofs.move_text.Goals as goal

pub returns-then-not-room : goal.returns-then-not-room
returns-then-not-room c =
    let a = c.args in
    no_room a.text.now a.cells.now a.bytes.now a.i a.o
    (ap texted (sym c.code.ensures) ∙ sym c.has_text.ensures ∙ c.if-not-has_text.false)
    (rw (c.if-not-room.true, c.load-x.ensures) at c.room.ensures)

pub returns : goal.returns
returns c =
    let a = c.args in
    moved_one a.text.now a.cells.now a.bytes.now _ a.i a.o c.load-x.result c.load-x.ensures
    (ap texted (sym c.code.ensures) ∙ sym c.has_text.ensures ∙ c.if-not-has_text.false) c.copy.ensures
