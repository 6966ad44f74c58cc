-- `before`: the search ends where a row parts the attributes, or with the rows.
use Rattle.std.proofs.Common.{◌∙◌, sym, arith}
use Rattle.row_tests.specs.Searched.{parts_as, again_none, again_stop}
use Rattle.explain_rows.specs.Firsts.{before_none}
use Rattle.explain_rows.proofs.firsts.before.Goals as goal

pub returns-then-parts : goal.returns-then-parts
returns-then-parts c =
    let rows = c.args.rows.now in
    before_none rows c.args.j
    (again_stop rows c.loop-i-test.true (omega arith) c.loop-i.invariant (λ e. c.if-m-k.false (c.kind-m.ensures ∙ e ∙ sym c.kind-k.ensures))
    (sym (parts_as c.parts.ensures c.kind-k.ensures c.kind-m.ensures) ∙ c.if-parts.true))

pub returns : goal.returns
returns c = let rows = c.args.rows.now in before_none rows c.args.j (again_none rows (λ m l u. c.loop-i.invariant m (omega arith) u))
