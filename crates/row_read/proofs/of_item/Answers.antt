-- `of_item`: by the plan's number of data items, and the limit.
use Rattle.std.proofs.Common.{arith, ◌∙◌}
use Rattle.row_read.specs.Found.{of_item, no_item, far_item}
use Rattle.row_read.proofs.of_item.Goals as goal
use Rattle.row_read.proofs.of_item.Goals.{then-n-from-via-then-n-from, then-n-from-via-else-n-from+then-n}

pub returns-then-n-from : goal.returns-then-n-from
returns-then-n-from c =
    let a = c.args in
    elim c.then-n-from.branch [
      | then-n-from-via-then-n-from w ↦ no_item a.f.now a.w a.s.now a.n a.p c.plain.result (c.from.ensures ∙ c.cell.ensures) (omega arith) c.plain.ensures
      | then-n-from-via-else-n-from+then-n w ↦ far_item a.f.now a.w a.s.now a.n a.p c.plain.result (omega arith) c.plain.ensures
    ]

pub returns : goal.returns
returns c = let a = c.args in of_item a.f.now a.w a.s.now a.n a.p c.item_row.result (c.from.ensures ∙ c.cell.ensures) (omega arith) c.item_row.ensures
