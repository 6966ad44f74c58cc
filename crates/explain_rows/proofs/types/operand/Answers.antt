-- `operand`: one part back, and one less to go.
use Rattle.std.proofs.Common.{◌≡◌, ◌+◌, ◌-◌, ◌∙◌, sym, arith}
use Rattle.explain_rows.specs.Types.{backs_step}
use Rattle.explain_rows.proofs.types.operand.Goals as goal

pub loop-preserved : goal.loop-preserved
loop-preserved c =
    let left = c.args.k - c.loop.counter in
    let e : c.args.k - (c.loop.counter + 1) ≡ left - 1 = omega arith in
    rw e (sym (backs_step c.args.cells.now c.loop.q left (omega arith) c.back-q.ensures) ∙ c.loop.invariant)
