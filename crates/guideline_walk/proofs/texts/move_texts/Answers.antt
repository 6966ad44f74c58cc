-- `move_texts`: the texts of an expression are gathered.
use Rattle.guideline_walk.specs.TextLaws.{texts_none, texts_moved}
use Rattle.guideline_walk.proofs.texts.move_texts.Goals as goal

pub returns-in-Some : goal.returns-in-Some
returns-in-Some c = rw c.in-Some.is (texts_moved c.gather.ensures)

pub returns-in-None : goal.returns-in-None
returns-in-None c = rw c.in-None.is texts_none
