-- `judge`: a place nearer, or the same.
use Rattle.parts.specs.Part.{table}
use Rattle.types.specs.JudgedLaws.{judges_yes, judges_no}
use Rattle.types.proofs.misfits.judge.Goals as goal

pub returns-then-unfit : goal.returns-then-unfit
returns-then-unfit c =
    let a = c.args in
    judges_yes a.rows.now (table a.cells.now a.bytes.now) a.names.now a.types.now a.j a.best c.unfit.ensures c.if-unfit.true c.begin.ensures c.nearer.ensures

pub returns-else-unfit : goal.returns-else-unfit
returns-else-unfit c =
    let a = c.args in
    judges_no a.rows.now (table a.cells.now a.bytes.now) a.names.now a.types.now a.j a.best c.unfit.ensures c.if-unfit.false
