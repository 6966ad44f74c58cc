-- `first`: the first token that fails the test is the first that breaks the stage, as the test decides it.
use Rattle.std.proofs.Common.{ℕ, ◌≡◌, true, below_more, sym, subst, ◌∙◌, arith}
use Rattle.std.specs.Prelude.{Some}
use Rattle.leaves.specs.Source.{source}
use Rattle.token_tests.specs.Reply.{First}
use Rattle.token_tests.specs.Walk.{first_is, none_is}
use Rattle.token_tests.specs.Tests.{Breaks, fails_at, decides}
use Rattle.token_tests.proofs.first.Goals as goal

pub returns-then-fails_at : goal.returns-then-fails_at
returns-then-fails_at c =
    let a = c.args in
    let l = c.loop-i in
    let s = source a.text.now a.kinds.now a.places.now a.lengths.now in
    let y : fails_at a.test s l.i ≡ true = sym c.fails_at.ensures ∙ c.if-fails_at.true in
    subst (λ (p : ℕ). First (Breaks a.test) s (Some p)) (sym c.cell.ensures) (first_is (decides a.test) s l.i c.loop-i-test.true l.invariant y)

pub returns : goal.returns
returns c =
    let a = c.args in
    let e = c.loop-i-test.false in
    none_is (decides a.test) (source a.text.now a.kinds.now a.places.now a.lengths.now) (λ j h. c.loop-i.invariant j (omega arith))

pub loop-i-preserved : goal.loop-i-preserved
loop-i-preserved c = below_more _ _ c.loop-i.invariant (sym c.fails_at.ensures ∙ c.if-fails_at.false)
