-- `listed`: the cells passed are in the list.
use Rattle.std.specs.Prelude.{◌≡◌, ◌≤◌, ◌+◌}
use Rattle.value_given.specs.Made.{Upto}
use Rattle.value_given.proofs.made.listed.Given as goal

abbrev pub invariant-loop-i : goal.invariant-loop-i
invariant-loop-i l = record { few : l.shape ≤ 17; many : l.l.n + 1 ≡ l.i; passed : Upto l.tags l.nums l.shape l.i l.l }
