-- `gather`: one row more at each turn.
use Rattle.std.proofs.Common.{◌≡◌, refl, arith}
use Rattle.name_tests.specs.Lists.{gather_more, gathered}
use Rattle.name_tests.proofs.lists.gather.Goals as goal

pub loop-i-init : goal.loop-i-init
loop-i-init c = (omega arith, refl, λ j a. absurd (omega arith))

pub loop-i-preserved : goal.loop-i-preserved
loop-i-preserved c =
    let v = c.loop-i.invariant in
    let w = c.put-m.ensures in
    let f = w.few in
    let g = gather_more w v.1 v.2 in
    (omega arith, g.0, g.1)

pub returns : goal.returns
returns c =
    let a = c.args in
    let l = c.loop-i in
    let z = c.loop-i-test.false in
    let e : l.i ≡ a.n = omega arith in
    gathered a.tasks a.rows.now a.n a.list.now l.list l.m l.i e l.auto.list l.invariant.1 l.invariant.2
