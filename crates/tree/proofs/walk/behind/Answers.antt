-- `behind`: one plan up, the root, a component beside it, or the next plan up.
use Rattle.std.proofs.Common.{◌≡◌, ◌+◌, ◌-◌, ◌<◌, arith, sym, subst, ℕ, ◌∙◌}
use Rattle.tree.specs.Walk.{Behind}
use Rattle.tree.specs.WalkLaws.{root_up, beside_up, above_up, none_up}
use Rattle.tree.proofs.walk.behind.Goals as goal

pub returns-then-x-eq0 : goal.returns-then-x-eq0
returns-then-x-eq0 c =
    let l : 0 < 32 - c.loop-up._up = omega arith in
    c.loop-up.invariant 32 (root_up c.args.plan.now c.loop-up.u (32 - c.loop-up._up) l (sym c.cell-x.ensures ∙ c.if-x-eq0.true))

pub returns-in-Some : goal.returns-in-Some
returns-in-Some c =
    let e = c.cell-x.ensures in
    let h = c.in-Some.ensures in
    let l : 0 < 32 - c.loop-up._up = omega arith in
    (h.0, c.loop-up.invariant c.in-Some.c (beside_up c.args.plan.now c.loop-up.u (32 - c.loop-up._up) c.in-Some.c l (λ z. c.if-x-eq0.false (e ∙ z)) (rw (← e, ← c.more.ensures) h.1) h.0))

pub loop-up-preserved : goal.loop-up-preserved
loop-up-preserved c =
    let e = c.cell-x.ensures in
    let l : 0 < 32 - c.loop-up._up = omega arith in
    let y : 32 - (c.loop-up._up + 1) ≡ 32 - c.loop-up._up - 1 = omega arith in
    λ r b. c.loop-up.invariant r (above_up c.args.plan.now c.loop-up.u (32 - c.loop-up._up) 32 r l (λ z. c.if-x-eq0.false (e ∙ z)) (rw (← e, ← c.more.ensures) c.in-None.ensures) (omega arith) (rw (← e) (subst (λ (k : ℕ). Behind c.args.plan.now k (c.cell-x.result - 1) r) y b)))

pub returns : goal.returns
returns c = c.loop-up.invariant 32 (none_up c.args.plan.now c.loop-up.u (32 - c.loop-up._up) (omega arith))
