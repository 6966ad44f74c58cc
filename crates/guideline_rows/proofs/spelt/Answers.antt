-- `spelt`: a token's bytes stand in the text, and its name inside its quotes.
use Rattle.guideline_rows.specs.Flags.{spelt_there}
use Rattle.guideline_rows.proofs.spelt.Goals as goal

pub returns-then-fits : goal.returns-then-fits
returns-then-fits c = record { inside = c.inside.ensures.1; done = λ t s. spelt_there _ _ _ c.place-at.ensures c.length-n.ensures c.inside.ensures.0 s }
