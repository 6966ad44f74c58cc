-- `single`: the row of a token that is an expression by itself.
use Rattle.std.proofs.Common.{arith, sym, ◌∙◌}
use Rattle.paper_expressions.proofs.Laws.Tests.{contra}
use Rattle.expression_reader.specs.Laws.{none_onward, single_kind, single_done}
use Rattle.expression_reader.proofs.single.single.Goals as goal
use Rattle.expression_reader.proofs.single.single.Goals.{in-95-to-100, in_default, in_default-2}

pub returns-then-not-matches : goal.returns-then-not-matches
returns-then-not-matches c = record {
  onward = none_onward c.refused.ensures;
  done = λ b d r t e f l.
      let i = single_kind f l in
      let k = c.kind_at.ensures in
      absurd (elim c.if-matches.branch [
        | in-95-to-100 w ↦ contra (sym c.if-not-matches.true ∙ w.matches-is)
        | in_default w ↦ omega arith
        | in_default-2 w ↦ omega arith
      ]);
}

pub returns : goal.returns
returns c = record {
  onward = λ e. record { on = omega arith; few = omega arith; more = omega arith; beside = c.put.ensures.beside };
  done = λ b d r t e f l. single_done f l c.leaf_at-w.result c.leaf_at-w.ensures c.put.ensures;
}
