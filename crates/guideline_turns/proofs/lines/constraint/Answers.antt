-- `constraint`: by what stands in the columns.
use Rattle.std.proofs.Common.{refl, arith}
use Rattle.guideline_turns.specs.TurnLaws.{plain_went, constraint_gives}
use Rattle.guideline_turns.proofs.lines.constraint.Goals as goal

pub returns : goal.returns
returns c = λ k u h. rw c.label.ensures (record { onward = plain_went k _ c.requires (omega arith) refl h; done = λ w r m rs f x. constraint_gives f _ _ c.place.ensures refl x })
