-- `token`: one part more is passed, or none is left.
use Rattle.std.proofs.Common.{sym, ◌∙◌}
use Rattle.told_refusal.specs.LeavesLaws.{parts_past, parts_more}
use Rattle.told_refusal.proofs.leaf.token.Goals as goal

pub loop-p-preserved : goal.loop-p-preserved
loop-p-preserved c = let a = c.args in sym (parts_more a.cells.now a.kinds.now c.loop-p.t c.loop-p.p a.to c.loop-p-test.true c.past-t.ensures) ∙ c.loop-p.invariant

pub returns : goal.returns
returns c = let a = c.args in sym (parts_past a.cells.now a.kinds.now c.loop-p.t c.loop-p.p a.to c.loop-p-test.false) ∙ c.loop-p.invariant
