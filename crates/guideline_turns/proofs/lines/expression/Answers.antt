-- `expression`: it is read, and a semicolon stands behind it.
use Rattle.std.proofs.Common.{refl, sym, ◌∙◌, arith}
use borrow.Author.Tests.{not-true, not-false}
use Rattle.paper_expressions.proofs.Laws.Tests.{contra}
use Rattle.guideline_turns.specs.TurnLaws.{read_went, expression_read, expression_gives}
use Rattle.guideline_turns.proofs.lines.expression.Goals as goal

pub returns-then-not-e : goal.returns-then-not-e
returns-then-not-e c =
    record {
      onward = tt;
      done = λ w r m rs f x. contra (sym (not-true _ c.if-not-e.true) ∙ (expression_read f c.read-e.ensures x).0);
    }

pub returns-then-tokens-n : goal.returns-then-tokens-n
returns-then-tokens-n c =
    record {
      onward = tt;
      done = λ w r m rs f x. absurd (let l = (expression_read f c.read-e.ensures x).1 in let h = c.if-tokens-n.true in omega arith);
    }

pub returns : goal.returns
returns c = record {
  onward = read_went _ c.requires.0 c.requires.1 (c.read-e.ensures.onward (not-false _ c.if-not-e.false)) refl (omega arith);
  done = λ w r m rs f x. expression_gives f _ _ _ _ c.kind_at.ensures c.place.ensures c.place-2.ensures c.read-e.ensures c.large.ensures x;
}
