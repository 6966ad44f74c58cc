-- `start`: the row before is a head, or leaves it to the rows before that.
use Rattle.std.proofs.Common.{◌≡◌, ◌+◌, ◌-◌, sym, ap, ◌∙◌, arith}
use Rattle.row_names.specs.Sheet.{head_kind}
use Rattle.row_tests.specs.Searched.{below_head}
use Rattle.row_tests.proofs.search.start.Goals as goal

pub returns-then-is_head : goal.returns-then-is_head
returns-then-is_head c =
    let l = c.loop-i in
    let t = c.loop-i-test.true in
    let e : l.i - 1 + 1 ≡ l.i = omega arith in
    rw e (record { within = omega arith; clear = l.invariant; head = λ l. sym (c.is_head.ensures ∙ ap head_kind c.kind.ensures) ∙ c.if-is_head.true })

pub loop-i-preserved : goal.loop-i-preserved
loop-i-preserved c = below_head c.args.rows.now c.loop-i-test.true (sym (c.is_head.ensures ∙ ap head_kind c.kind.ensures) ∙ c.if-is_head.false) c.loop-i.invariant

pub returns : goal.returns
returns c =
    let z = c.loop-i-test.false in
    record { within = omega arith; clear = λ m a b. c.loop-i.invariant m (omega arith) b; head = λ l. absurd (omega arith) }
