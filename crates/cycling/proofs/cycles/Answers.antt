-- `cycles`: the first is less, where both are numbers; else the table has not both rows.
use Rattle.std.proofs.Common.{◌≡◌, true, false, sym, ◌∙◌, refl, eqb-true, eq-eqb}
use Rattle.paper_expressions.proofs.Laws.Tests.{contra}
use Rattle.cycling.specs.Cycling.{both, no_count, no_cycles}
use Rattle.cycling.proofs.cycles.Goals as goal
use Rattle.cycling.proofs.cycles.Goals.{then-cell-eq-COUNT, else-cell-eq-COUNT}

pub returns-then-cell-eq-COUNT-2 : goal.returns-then-cell-eq-COUNT-2
returns-then-cell-eq-COUNT-2 c =
    elim c.if-cell-eq-COUNT.branch [
      | then-cell-eq-COUNT w ↦ both _ _ c.cell.ensures w.if-cell-eq-COUNT.true w.cell-then-cell-eq-COUNT.ensures (eqb-true _ _ (sym w.value-is ∙ c.if-cell-eq-COUNT-2.true)) c.cell-then-cell-eq-COUNT-2.ensures c.cell-then-cell-eq-COUNT-2-2.ensures refl
      | else-cell-eq-COUNT w ↦ absurd (w.if-cell-eq-COUNT.false (eqb-true _ _ (sym w.value-is ∙ c.if-cell-eq-COUNT-2.true)))
    ]

pub returns-else-cell-eq-COUNT-2 : goal.returns-else-cell-eq-COUNT-2
returns-else-cell-eq-COUNT-2 c =
    elim c.if-cell-eq-COUNT.branch [
      | then-cell-eq-COUNT w ↦ rw c.if-cell-eq-COUNT-2.false (no_cycles _ _ w.cell-then-cell-eq-COUNT.ensures (λ e. contra (sym c.if-cell-eq-COUNT-2.false ∙ w.value-is ∙ eq-eqb _ _ e)))
      | else-cell-eq-COUNT w ↦ rw c.if-cell-eq-COUNT-2.false (no_count _ _ c.cell.ensures w.if-cell-eq-COUNT.false)
    ]
