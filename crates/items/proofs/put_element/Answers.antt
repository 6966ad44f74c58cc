-- `put_element`: its bytes, its tag, its number.
use Rattle.items.specs.Encode.{put_element}
use Rattle.items.proofs.put_element.Goals as goal

pub returns : goal.returns
returns c = put_element _ _ _ _ _ _ _ _ c.spelt-h.ensures c.copy_text.ensures c.tag.ensures c.put_cell.ensures c.number.ensures c.put_cell-2.ensures
