-- `put_unknown`: its tag, its shape and its number.
use Rattle.typed_value.specs.Cells.{tags_with, numbers_with}
use Rattle.typed_value.proofs.ones.put_unknown.Goals as goal

pub returns : goal.returns
unfolding tags_with numbers_with
returns c = (c.put_tag.ensures, c.put_number.ensures)
