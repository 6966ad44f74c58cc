-- `requests`: the row of one source more, and those of all.
use Rattle.std.proofs.Common.{arith, ◌∙◌}
use Rattle.starting.specs.StartRows.{each_more, each_all, requests_more}
use Rattle.starting.proofs.requests.Goals as goal

pub loop-i-preserved : goal.loop-i-preserved
loop-i-preserved c = record {
  few = omega arith;
  rows = each_more _ _ _ _ _ _ _ _ _ _ _ (omega arith) c.cell-in-loop-i.ensures c.loop-i.invariant.rows c.request.ensures.request_row;
  same = c.request.ensures.same ∙ c.loop-i.invariant.same;
}

pub returns-clause-request_rows : goal.returns-clause-request_rows
returns-clause-request_rows c =
    requests_more _ _ _ _ _ _ _ c.cell.ensures c.if-cell-ne-ENQUIRY.false c.cell-first.ensures c.cell-count.ensures (each_all _ _ _ _ _ _ _ _ _ (omega arith) c.loop-i.invariant.rows)
