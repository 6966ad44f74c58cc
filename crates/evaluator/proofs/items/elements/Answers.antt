-- `elements`: one cell more is put at each turn, and all at the end.
use Rattle.std.proofs.Common.{arith}
use Rattle.evaluator.specs.Items.{filled_more, filled_all}
use Rattle.evaluator.proofs.items.elements.Goals as goal

pub loop-k-preserved : goal.loop-k-preserved
loop-k-preserved c =
    let a = c.args in
    let l = c.loop-k in
    filled_more a.tags.now a.nums.now a.p a.n l.k c.cell.result l.l c.put_at-l.result (omega arith) c.loop-k-test.true (omega arith) c.cell.ensures c.put_at-l.ensures l.invariant

pub returns : goal.returns
returns c = let a = c.args in let l = c.loop-k in filled_all a.tags.now a.nums.now a.p a.n l.k l.l c.loop-k-test.false l.invariant
