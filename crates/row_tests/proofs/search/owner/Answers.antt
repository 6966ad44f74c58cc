-- `owner`: the row before is one, or leaves it to the rows before that.
use Rattle.std.proofs.Common.{sym, ◌∙◌, arith}
use Rattle.row_tests.specs.Searched.{below_component}
use Rattle.row_tests.proofs.search.owner.Goals as goal

pub returns-then-kind-eq-COMPONENT : goal.returns-then-kind-eq-COMPONENT
returns-then-kind-eq-COMPONENT c =
    let v = c.loop-i.invariant in
    let l = c.loop-i-test.true in
    record { within = omega arith; component = λ h. sym c.kind.ensures ∙ c.if-kind-eq-COMPONENT.true; between = λ m a b. v m (omega arith) b; none = λ e. absurd (omega arith) }

pub loop-i-preserved : goal.loop-i-preserved
loop-i-preserved c = below_component c.args.rows.now c.loop-i-test.true (λ e. c.if-kind-eq-COMPONENT.false (c.kind.ensures ∙ e)) c.loop-i.invariant

pub returns : goal.returns
returns c =
    let z = c.loop-i-test.false in
    record { within = omega arith; component = λ h. absurd (omega arith); between = λ m a b. absurd (omega arith); none = λ e m b. c.loop-i.invariant m (omega arith) b }
