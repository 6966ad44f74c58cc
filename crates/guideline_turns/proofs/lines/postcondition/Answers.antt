-- `postcondition`: by what stands in the columns.
use Rattle.std.proofs.Common.{refl, arith}
use Rattle.guideline_turns.specs.TurnLaws.{plain_went, postcondition_gives}
use Rattle.guideline_turns.proofs.lines.postcondition.Goals as goal

pub returns : goal.returns
returns c = λ k u h. record { onward = plain_went k _ c.requires (omega arith) refl h; done = λ w r m rs f x. postcondition_gives f _ c.place.ensures x }
