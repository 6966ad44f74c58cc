-- `answers`: the lines, from blank tables on.
use Rattle.replay.proofs.scripts.answers.Goals as goal

pub returns : goal.returns
returns c = record { after = _; answered = c.lines.ensures }
