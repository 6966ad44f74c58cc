-- `type_of` and `operands`, which call each other: the depth falls. The operands that are left end where the walk stands, and those passed have their types.
use Rattle.std.proofs.Common.{◌+◌, ◌-◌, ◌*◌}
use Rattle.parts.specs.Part.{table}
use Rattle.typer.proofs.TypedLaws.{Going}
use Rattle.typer.proofs.+operands_type_of.Given as goal

abbrev pub decreases-operands : goal.decreases-operands
decreases-operands l = 2 * l.depth

abbrev pub decreases-type_of : goal.decreases-type_of
decreases-type_of l = 2 * l.depth + 1

abbrev pub invariant-operands-loop : goal.invariant-operands-loop
invariant-operands-loop l = Going (table l.cells l.bytes) l.names l.types l.task l.p l.n l.depth (l.n - l.counter) l.q l.s
