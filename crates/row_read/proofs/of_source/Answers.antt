-- `of_source`: by the plan's number of sources, and the limit.
use Rattle.std.proofs.Common.{arith}
use Rattle.row_read.specs.Found.{of_source, no_source, far_source}
use Rattle.row_read.proofs.of_source.Goals as goal
use Rattle.row_read.proofs.of_source.Goals.{then-n-sources-via-then-n-sources, then-n-sources-via-else-n-sources+then-n}

pub returns-then-n-sources : goal.returns-then-n-sources
returns-then-n-sources c =
    let a = c.args in
    elim c.then-n-sources.branch [
      | then-n-sources-via-then-n-sources w ↦ no_source a.f.now a.w a.s.now a.n a.p c.plain.result c.sources.ensures (omega arith) c.plain.ensures
      | then-n-sources-via-else-n-sources+then-n w ↦ far_source a.f.now a.w a.s.now a.n a.p c.plain.result (omega arith) c.plain.ensures
    ]

pub returns : goal.returns
returns c = let a = c.args in of_source a.f.now a.w a.s.now a.n a.p c.source_row.result c.sources.ensures (omega arith) c.source_row.ensures
