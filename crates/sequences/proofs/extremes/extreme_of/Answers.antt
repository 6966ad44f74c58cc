-- `extreme_of`: the first that is best, or none.
use Rattle.std.proofs.Common.{arith, sym, ◌∙◌, below_more}
use Rattle.sequences.proofs.Elements.{first_best, no_best}
use Rattle.sequences.proofs.extremes.extreme_of.Goals as goal

pub returns-then-best : goal.returns-then-best
returns-then-best c =
    let a = c.args in
    first_best a.bytes.now a.e a.l c.loop-i.i (omega arith) c.get.ensures (sym c.best.ensures ∙ c.if-best.true) c.loop-i.invariant

pub loop-i-preserved : goal.loop-i-preserved
loop-i-preserved c = below_more _ _ c.loop-i.invariant (sym c.best.ensures ∙ c.if-best.false)

pub returns : goal.returns
returns c = let a = c.args in no_best a.bytes.now a.e a.l (λ k h. c.loop-i.invariant k (omega arith))
