-- `operand`: what is left to go back leads to the same place.
use Rattle.std.proofs.Common.{◌≡◌, ◌-◌}
use Rattle.explain_rows.specs.Types.{backs}
use Rattle.explain_rows.proofs.types.operand.Given as goal

abbrev pub invariant-loop : goal.invariant-loop
invariant-loop l = backs l.cells l.q (l.k - l.counter) ≡ backs l.cells l.p l.k
