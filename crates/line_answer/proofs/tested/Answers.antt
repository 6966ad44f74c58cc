-- `line::tested` meets its contract: a test refuses.
use Rattle.line_answer.specs.Writing.{refuses}
use Rattle.line_answer.proofs.tested.Goals as goal

pub returns-in-Err : goal.returns-in-Err
returns-in-Err c = refuses c.requires.blank c.in-Err.ensures c.refused.ensures

pub returns-in-Err-fit : goal.returns-in-Err-fit
returns-in-Err-fit c = refuses c.requires.blank c.in-Err-fit.ensures.fitted c.refused-in-Err-fit.ensures
