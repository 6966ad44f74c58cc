-- `review_one`: the first condition that holds.
use Rattle.operations.specs.Review.{rows_1, rows_2, rows_3}
use Rattle.operations.proofs.review_one.Goals as goal

pub returns-then-initialises-clause-review_rows : goal.returns-then-initialises-clause-review_rows
returns-then-initialises-clause-review_rows c =
    let a = c.args in
    rows_1 a.s.now a.f.now a.clock a.t a.initialises a.starts a.discards a.completes a.rows.now.cells.now a.rows.now.count c.initialise.new.rows.cells.now c.initialise.new.rows.count c.if-initialises.true c.initialise.ensures.initialise_rows

pub returns-then-starts-clause-review_rows : goal.returns-then-starts-clause-review_rows
returns-then-starts-clause-review_rows c =
    let a = c.args in
    rows_2 a.s.now a.f.now a.clock a.t a.initialises a.starts a.discards a.completes a.rows.now.cells.now a.rows.now.count c.start.new.rows.cells.now c.start.new.rows.count c.if-initialises.false c.if-starts.true c.start.ensures.start_rows

pub returns-then-discards-clause-review_rows : goal.returns-then-discards-clause-review_rows
returns-then-discards-clause-review_rows c =
    let a = c.args in
    rows_3 a.s.now a.f.now a.clock a.t a.initialises a.starts a.discards a.completes a.rows.now.cells.now a.rows.now.count c.discard.new.rows.cells.now c.discard.new.rows.count c.if-initialises.false c.if-starts.false c.if-discards.true c.discard.ensures.discard_rows
