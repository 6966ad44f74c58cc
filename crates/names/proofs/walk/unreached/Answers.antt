-- `unreached`: one task more at each turn.
use Rattle.std.proofs.Common.{◌≡◌, ℕ, subst, arith}
use Rattle.names.specs.Verdict.{Tells}
use Rattle.names.proofs.VerdictLaws.{tells_none}
use Rattle.names.proofs.walk.unreached.Goals as goal

pub loop-k-init : goal.loop-k-init
loop-k-init c = let a = c.args in tells_none a.rows.now a.tasks.now a.marks.now a.m a.best

pub loop-k-preserved : goal.loop-k-preserved
loop-k-preserved c = c.tell-found.ensures c.args.m c.args.best c.loop-k-test.true c.loop-k.invariant

pub returns : goal.returns
returns c =
    let a = c.args in
    let l = c.loop-k in
    let z = c.loop-k-test.false in
    let e : l.k ≡ a.m = omega arith in
    subst (λ (i : ℕ). Tells a.rows.now a.tasks.now a.marks.now a.m i a.best l.found) e l.invariant
