-- `one_by_one`: a cycle that is not bounded is the last, another goes on the run, and past the bound the run is over.
use Rattle.std.proofs.Common.{◌≡◌, ℕ, refl, subst, arith}
use borrow.Author.Tests.{not-true, not-false}
use Rattle.advise.specs.RunLaws.{Upto, none_yet, still_bounded, over_before, all_told}
use Rattle.advise.proofs.told_run.one_by_one.Goals as goal

pub loop-i-init : goal.loop-i-init
loop-i-init c = none_yet

pub returns-then-not-is_bounded : goal.returns-then-not-is_bounded
returns-then-not-is_bounded c = over_before c.enact-c.result c.after-r.result c.loop-i.invariant (omega arith) c.enact-c.ensures c.after-r.ensures c.is_bounded.ensures c.args.bound (omega arith) (omega arith) c.if-not-is_bounded.true

pub loop-i-preserved : goal.loop-i-preserved
loop-i-preserved c = still_bounded c.enact-c.result c.after-r.result c.loop-i.invariant (omega arith) c.enact-c.ensures c.after-r.ensures c.is_bounded.ensures c.if-not-is_bounded.false

pub returns : goal.returns
returns c =
    let a = c.args in
    let e : c.loop-i.i ≡ a.bound = omega arith in
    all_told refl (omega arith) (subst (λ (i : ℕ). Upto a.parts.now a.texts.now a.plan.now a.waits a.state.now i c.loop-i.texts c.loop-i.state) e c.loop-i.invariant)
