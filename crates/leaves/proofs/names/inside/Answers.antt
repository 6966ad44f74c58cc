-- `inside`: a quote is the first byte of a token that has one.
use Rattle.std.proofs.Common.{refl, sym, ◌∙◌, ⊎_elim, arith}
use Rattle.paper_expressions.proofs.Laws.Tests.{contra}
use Rattle.leaves.specs.Cells.{inner_quoted}
use Rattle.leaves.proofs.names.inside.Goals as goal
use Rattle.leaves.proofs.names.inside.Goals.{in-39, in_default}

pub returns-then-matches : goal.returns-then-matches
returns-then-matches c =
    let a = c.args in
    let u = c.unquoted.ensures in
    let l = c.if-n-gt0.true in (
      rw (u.0, u.1) (elim c.match-matches.branch [
        | in-39 w ↦ ⊎_elim (λ e. sym (inner_quoted a.text.now a.at a.n 34 l e refl)) (λ e. sym (inner_quoted a.text.now a.at a.n 39 l e refl)) w.in-39.is
        | in_default w ↦ contra (sym w.matches-is ∙ c.if-matches.true)
      ]),
      omega arith,
    )
