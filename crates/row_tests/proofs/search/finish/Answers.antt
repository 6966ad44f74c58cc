-- `finish`: the next row is a head, or leaves it to the rows behind it.
use Rattle.std.proofs.Common.{◌≡◌, sym, ap, ◌∙◌, arith, false}
use Rattle.row_names.specs.Sheet.{head_kind}
use Rattle.row_tests.specs.Table.{kind_of}
use Rattle.row_tests.specs.Searched.{up_more}
use Rattle.row_tests.proofs.search.finish.Goals as goal

pub returns-then-is_head : goal.returns-then-is_head
returns-then-is_head c =
    let t = c.loop-i-test.true in
    record { within = omega arith; behind = λ l. omega arith; clear = c.loop-i.invariant; head = λ l u. sym (c.is_head.ensures ∙ ap head_kind c.kind.ensures) ∙ c.if-is_head.true }

pub loop-i-preserved : goal.loop-i-preserved
loop-i-preserved c = up_more (λ m. head_kind (kind_of c.args.rows.now m) ≡ false) c.loop-i.invariant (sym (c.is_head.ensures ∙ ap head_kind c.kind.ensures) ∙ c.if-is_head.false)

pub returns : goal.returns
returns c =
    let z = c.loop-i-test.false in
    record { within = omega arith; behind = λ l. l; clear = λ m a b. c.loop-i.invariant m a (omega arith); head = λ l. absurd (omega arith) }
