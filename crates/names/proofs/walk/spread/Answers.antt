-- `spread`: one task more at each turn.
use Rattle.std.proofs.Common.{◌≡◌, ℕ, subst, arith}
use Rattle.row_tests.specs.Table.{sheet}
use Rattle.names.specs.Walk.{Spread, spread_none, spread_more}
use Rattle.names.proofs.walk.spread.Goals as goal

pub loop-k-init : goal.loop-k-init
loop-k-init c = let a = c.args in (record { over = λ i. omega arith }, λ u. spread_none (sheet a.rows.now a.n a.bytes.now) a.tasks.now a.t a.marks.now)

pub loop-k-preserved : goal.loop-k-preserved
loop-k-preserved c =
    let v = c.loop-k.invariant in
    let w = c.mark.ensures in
    (record { over = λ i. let p = v.0.over i in let q = w.1.over i in omega arith }, λ u. let y = w.2 u in spread_more (v.1 u) w.0 y.0 y.1 y.2)

pub returns : goal.returns
returns c =
    let a = c.args in
    let l = c.loop-k in
    let z = c.loop-k-test.false in
    let e : l.k ≡ a.m = omega arith in
    (l.auto.marks, l.invariant.0, λ u. subst (λ (i : ℕ). Spread (sheet a.rows.now a.n a.bytes.now) a.tasks.now i a.t a.marks.now l.marks) e (l.invariant.1 u))
