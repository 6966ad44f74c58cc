-- `task`: by what stands in the columns.
use Rattle.std.proofs.Common.{refl, arith}
use Rattle.guideline_turns.specs.TurnLaws.{plain_went, task_gives}
use Rattle.guideline_turns.proofs.lines.task.Goals as goal

pub returns : goal.returns
returns c = λ k u h. rw c.label.ensures (record { onward = plain_went k _ c.requires (omega arith) refl h; done = λ w r m rs f x. task_gives f _ _ c.kind_at.ensures refl x })
