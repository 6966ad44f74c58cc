-- `count`: the row of a count, and none where there is no count.
use Rattle.std.proofs.Common.{arith}
use Rattle.starting.specs.StartRows.{count_more, count_full, count_none}
use Rattle.changes.specs.Made.{pushes_row}
use Rattle.starting.proofs.count.Goals as goal
use Rattle.starting.proofs.count.Goals.{else-cell-eq-COUNT-via-then-cell-eq-COUNT+else-x, else-cell-eq-COUNT-via-else-cell-eq-COUNT}

pub returns-then-x-clause-count_row : goal.returns-then-x-clause-count_row
returns-then-x-clause-count_row c = count_more _ _ _ _ _ _ c.cell.ensures c.if-cell-eq-COUNT.true c.cell-x.ensures (pushes_row c.count.ensures c.push.ensures.pushes)

pub returns-else-cell-eq-COUNT-clause-count_row : goal.returns-else-cell-eq-COUNT-clause-count_row
returns-else-cell-eq-COUNT-clause-count_row c =
    elim c.else-cell-eq-COUNT.branch [
      | else-cell-eq-COUNT-via-then-cell-eq-COUNT+else-x w ↦ count_full _ _ _ _ c.cell.ensures w.if-cell-eq-COUNT.true c.cell-x.ensures (λ h. omega arith)
      | else-cell-eq-COUNT-via-else-cell-eq-COUNT w ↦ count_none _ _ _ _ c.cell.ensures w.if-cell-eq-COUNT.false
    ]
