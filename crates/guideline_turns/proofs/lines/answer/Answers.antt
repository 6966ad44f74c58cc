-- `answer`: by what stands in the columns.
use Rattle.std.proofs.Common.{refl, arith}
use Rattle.guideline_turns.specs.TurnLaws.{plain_went, answer_gives}
use Rattle.guideline_turns.proofs.lines.answer.Goals as goal

pub returns : goal.returns
returns c = λ k u h. record { onward = plain_went k _ c.requires (omega arith) refl h; done = λ w r m rs f x. answer_gives f _ _ _ c.kind_at.ensures c.place.ensures c.answer.ensures x }
