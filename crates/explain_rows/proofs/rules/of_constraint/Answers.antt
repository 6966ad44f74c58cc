-- `of_constraint`: its own component is another, and one of the plan has its name.
use Rattle.std.proofs.Common.{sym, ◌∙◌}
use Rattle.explain_rows.specs.Rules.{constraint_kept, beside_as}
use Rattle.explain_rows.proofs.rules.of_constraint.Goals as goal

pub returns-then-is_beside : goal.returns-then-is_beside
returns-then-is_beside c = λ e.
    let a = c.args in
    constraint_kept e c.owner-c.ensures (sym c.is_own.ensures ∙ c.if-is_own.false) (beside_as a.rows.now a.n a.bytes.now a.j c.is_beside.ensures c.if-is_beside.true)
