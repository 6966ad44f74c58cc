-- `columns`: one row more at each turn.
use Rattle.std.proofs.Common.{refl, arith}
use Rattle.plan_fill.specs.Rounds.{rows_none, rows_more, rows_all}
use Rattle.plan_fill.proofs.columns.columns.Goals as goal

pub loop-k-init : goal.loop-k-init
loop-k-init c =
    let a = c.args in
    rows_none a.rows.now a.n a.bytes.now a.tasks.now a.m a.items.now a.d a.f.now refl refl refl refl refl refl refl

pub loop-k-preserved : goal.loop-k-preserved
loop-k-preserved c =
    let a = c.args in
    rows_more a.rows.now a.n a.bytes.now a.tasks.now a.m a.items.now a.d a.f.now c.loop-k.k c.loop-k-test.true c.loop-k.invariant c.step-at.ensures

pub returns : goal.returns
returns c =
    let a = c.args in
    rows_all a.rows.now a.n a.bytes.now a.tasks.now a.m a.items.now a.d a.f.now c.loop-k.k (omega arith) c.loop-k.invariant
