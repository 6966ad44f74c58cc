-- `part_value` and `gather`, which call each other: the depth falls. The operands that are left end where the walk stands,
-- and the values of those passed are gathered.
use Rattle.std.proofs.Common.{◌+◌, ◌*◌}
use Rattle.evaluator.specs.Lent.{table_of, columns_of}
use Rattle.evaluator.specs.Valued.{Going}
use Rattle.evaluator.proofs.lent.Lent.+gather_part_value.Given as goal

abbrev pub decreases-gather : goal.decreases-gather
decreases-gather l = 2 * l.depth

abbrev pub decreases-part_value : goal.decreases-part_value
decreases-part_value l = 2 * l.depth + 1

abbrev pub invariant-gather-loop-k : goal.invariant-gather-loop-k
invariant-gather-loop-k l = Going (table_of l.self) (columns_of l.self) l.p l.n l.depth l.k l.q l.o
