-- `flaws`: one row more at each turn.
use Rattle.std.proofs.Common.{◌≡◌, ℕ, subst, arith}
use Rattle.names.specs.Verdict.{AllFlaws}
use Rattle.names.proofs.VerdictLaws.{flaws_none}
use Rattle.names.proofs.flaws.flaws.Goals as goal

pub loop-j-init : goal.loop-j-init
loop-j-init c = let a = c.args in λ t i. flaws_none a.rows.now a.n a.bytes.now

pub loop-j-preserved : goal.loop-j-preserved
loop-j-preserved c = c.judge-best.ensures c.loop-j-test.true c.loop-j.invariant

pub returns : goal.returns
returns c =
    let a = c.args in
    let l = c.loop-j in
    let z = c.loop-j-test.false in
    let e : l.j ≡ a.n = omega arith in
    subst (λ (i : ℕ). AllFlaws a.rows.now a.n a.bytes.now a.tasks.now a.m a.items.now a.d i l.best) e l.invariant
