-- `gather`: one row more at each turn.
use Rattle.std.proofs.Common.{◌≡◌, arith}
use Rattle.types.specs.ColumnLaws.{going_first, going_more, puts_few, gathered}
use Rattle.types.proofs.columns.gather.Goals as goal

pub loop-i-init : goal.loop-i-init
loop-i-init c = let a = c.args in (omega arith, going_first a.rows.now a.n a.names.now a.types.now)

pub loop-i-preserved : goal.loop-i-preserved
loop-i-preserved c =
    let p = c.put-m.ensures in
    let f = puts_few p in
    let b = c.loop-i.invariant.0 in
    (omega arith, going_more c.loop-i-test.true c.requires p c.loop-i.invariant.1)

pub returns : goal.returns
returns c =
    let a = c.args in
    let l = c.loop-i in
    let z = c.loop-i-test.false in
    let e : l.i ≡ a.n = omega arith in
    gathered a.rows.now a.n a.names.now a.types.now l.names l.types l.m l.i e l.auto.names l.auto.types l.invariant.1
