-- `depth`: one plan more is passed, or none is left to look at.
use Rattle.std.proofs.Common.{◌≡◌, ℕ, ◌+◌, ◌-◌, ap, ◌∙◌, arith}
use Rattle.waits.specs.Twins.{parent_at}
use Rattle.tree.specs.Walk.{depth_of}
use Rattle.tree.specs.WalkLaws.{depth_up, depth_none}
use Rattle.tree.proofs.walk.depth.Goals as goal

pub loop-n-preserved : goal.loop-n-preserved
loop-n-preserved c =
    let v = c.loop-n.invariant in
    let q = c.cell-x.ensures in
    let e = depth_up c.args.plan.now c.loop-n.u (32 - c.loop-n.n) (omega arith) (λ z. c.if-x-eq0.false (q ∙ z)) in
    let y : 32 - (c.loop-n.n + 1) ≡ 32 - c.loop-n.n - 1 = omega arith in
    let k = ap (λ (m : ℕ). depth_of c.args.plan.now m (parent_at c.args.plan.now c.loop-n.u - 1)) y in
    let w = ap (λ (p : ℕ). depth_of c.args.plan.now (32 - (c.loop-n.n + 1)) (p - 1)) q in
    let z = v in
    omega arith

pub returns : goal.returns
returns c =
    let v = c.loop-n.invariant in
    let e = depth_none c.args.plan.now c.loop-n.u (32 - c.loop-n.n) (omega arith) in
    let z : c.loop-n.n ≡ 32 = omega arith in
    (omega arith, omega arith)
