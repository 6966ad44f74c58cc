-- `text_byte`: of the text, or past its end.
use Rattle.std.proofs.Common.{sym, ◌∙◌}
use Rattle.blocks.specs.Blocks.{cells_at, cells_past}
use Rattle.blocks.proofs.text_byte.Goals as goal

pub returns-then-k-n : goal.returns-then-k-n
returns-then-k-n c = c.at.ensures ∙ sym (cells_at _ _ _ _ c.if-k-n.true)

pub returns-else-k-n : goal.returns-else-k-n
returns-else-k-n c = sym (cells_past _ _ _ _ c.if-k-n.false)
