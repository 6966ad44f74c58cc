-- `assignment`: its expression is read.
use Rattle.std.proofs.Common.{refl, sym, ◌∙◌, arith}
use borrow.Author.Tests.{not-true, not-false}
use Rattle.paper_expressions.proofs.Laws.Tests.{contra}
use Rattle.guideline_turns.specs.TurnLaws.{read_went, assignment_read, assignment_gives}
use Rattle.guideline_turns.proofs.lines.assignment.Goals as goal

pub returns-then-not-e : goal.returns-then-not-e
returns-then-not-e c =
    record {
      onward = tt;
      done = λ w r m rs f x. contra (sym (not-true _ c.if-not-e.true) ∙ assignment_read f c.read-e.ensures x);
    }

pub returns : goal.returns
returns c = rw c.label.ensures (record {
  onward = read_went _ c.requires.0 c.requires.1 (c.read-e.ensures.onward (not-false _ c.if-not-e.false)) refl (omega arith);
  done = λ w r m rs f x. assignment_gives f _ _ _ refl c.place.ensures c.read-e.ensures c.large.ensures x;
})
