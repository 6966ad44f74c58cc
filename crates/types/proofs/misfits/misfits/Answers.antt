-- `misfits`: one row more at each turn.
use Rattle.std.proofs.Common.{◌≡◌, ℕ, subst, arith}
use Rattle.parts.specs.Part.{table}
use Rattle.types.specs.Judged.{AllMisfits}
use Rattle.types.specs.JudgedLaws.{misfits_none}
use Rattle.types.proofs.misfits.misfits.Goals as goal

pub loop-j-init : goal.loop-j-init
loop-j-init c = let a = c.args in misfits_none a.rows.now (table a.cells.now a.bytes.now) a.names.now a.types.now

pub loop-j-preserved : goal.loop-j-preserved
loop-j-preserved c = c.judge-best.ensures c.loop-j.invariant

pub returns : goal.returns
returns c =
    let a = c.args in
    let l = c.loop-j in
    let z = c.loop-j-test.false in
    let e : l.j ≡ a.n = omega arith in
    subst (λ (i : ℕ). AllMisfits a.rows.now (table a.cells.now a.bytes.now) a.names.now a.types.now i l.best) e l.invariant
