-- `again`: the kinds of the row before decide, or leave it to the rows before that.
use Rattle.std.proofs.Common.{sym, ◌∙◌, arith}
use Rattle.row_tests.specs.Searched.{parts_as, again_none, again_here, again_stop, passed_more}
use Rattle.row_tests.proofs.search.again.Goals as goal

pub loop-i-init : goal.loop-i-init
loop-i-init c = (c.kind-k.ensures, λ m a b. absurd (omega arith))

pub returns-then-m-k : goal.returns-then-m-k
returns-then-m-k c =
    let v = c.loop-i.invariant in
    again_here c.args.rows.now c.loop-i-test.true (omega arith) v.1 (sym c.kind-m.ensures ∙ c.if-m-k.true ∙ v.0)

pub returns-then-parts : goal.returns-then-parts
returns-then-parts c =
    let v = c.loop-i.invariant in
    again_stop c.args.rows.now c.loop-i-test.true (omega arith) v.1 (λ e. c.if-m-k.false (c.kind-m.ensures ∙ e ∙ sym v.0)) (sym (parts_as c.parts.ensures v.0 c.kind-m.ensures) ∙ c.if-parts.true)

pub loop-i-preserved : goal.loop-i-preserved
loop-i-preserved c =
    let v = c.loop-i.invariant in
    (v.0, passed_more c.args.rows.now c.loop-i-test.true (omega arith) v.1 (λ e. c.if-m-k.false (c.kind-m.ensures ∙ e ∙ sym v.0)) (sym (parts_as c.parts.ensures v.0 c.kind-m.ensures) ∙ c.if-parts.false))

pub returns : goal.returns
returns c =
    let z = c.loop-i-test.false in
    again_none c.args.rows.now (λ m a b. c.loop-i.invariant.1 m (omega arith) b)
