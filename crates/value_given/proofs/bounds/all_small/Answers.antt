-- `all_small`: a cell that is not within the limits, and one more that is.
use Rattle.std.proofs.Common.{rules, arith}
use Rattle.value_given.specs.Bounds.{upto_more, all_small_not}
use Rattle.value_given.proofs.bounds.all_small.Goals as goal

pub returns-then-not-is_small : goal.returns-then-not-is_small
returns-then-not-is_small c =
    let a = c.args in
    all_small_not a.tags.now a.nums.now a.bytes.now a.shape c.loop-i.i (omega arith) (omega arith) c.word.ensures c.number.ensures c.is_small.ensures (search rules)

pub loop-i-preserved : goal.loop-i-preserved
loop-i-preserved c =
    let a = c.args in
    upto_more a.tags.now a.nums.now a.bytes.now a.shape c.loop-i.i (omega arith) (omega arith) c.word.ensures c.number.ensures c.is_small.ensures (search rules) c.loop-i.invariant
