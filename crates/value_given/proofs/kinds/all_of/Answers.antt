-- `all_of`: a cell that is of another kind.
use Rattle.std.proofs.Common.{rules, arith}
use Rattle.value_given.specs.Kinds.{all_not}
use Rattle.value_given.proofs.kinds.all_of.Goals as goal

pub returns-then-not-is_of : goal.returns-then-not-is_of
returns-then-not-is_of c = let a = c.args in all_not a.tags.now a.nums.now a.e c.loop-i.i a.shape (omega arith) (omega arith) c.is_of.ensures (search rules)
