-- `untyped`: all parts that were passed have a type.
use Rattle.std.proofs.Common.{ℕ, ◌≤◌, ◌<◌}
use Rattle.parts.specs.Part.{table}
use Rattle.explain_rows.specs.Types.{Lettered}
use Rattle.explain_rows.proofs.types.untyped.Given as goal

abbrev pub invariant-loop-p : goal.invariant-loop-p
invariant-loop-p l = (m : ℕ) → l.from ≤ m → m < l.p → Lettered (table l.cells l.bytes) l.names l.types m
