-- `row`: by the test whether there is one.
use Rattle.std.proofs.Common.{refl, sym, ◌∙◌}
use Rattle.replay.specs.Rows.{no_row, a_row}
use Rattle.replay.proofs.listing.View.row.Goals as goal

pub returns-then-is_row : goal.returns-then-is_row
returns-then-is_row c = a_row c.read-row.result c.read-row.ensures (sym c.is_row.ensures ∙ c.if-is_row.true) c.row_line.ensures

pub returns-else-is_row : goal.returns-else-is_row
returns-else-is_row c = no_row c.read-row.result c.read-row.ensures (sym c.is_row.ensures ∙ c.if-is_row.false) refl
