-- `sum_of`: from i on the total is that of the list's rest, and at most 2^41 for each element passed.
use Rattle.std.proofs.Common.{ℕ, List, drop, ◌≤◌, ◌*◌, ◌-◌, ◌^◌}
use Rattle.values.specs.Meaning.{meaning_l, size_of}
use Rattle.sequences.specs.Totals.{Totals, size}
use Rattle.sequences.proofs.adding.sum_of.Given as goal

abbrev pub invariant-loop-i : goal.invariant-loop-i
invariant-loop-i l = record {
  inside : l.i ≤ size_of l.l;
  few : l.i ≤ 16;
  integers : size l.t.integers ≤ (16 - l.i) * 2 ^ 41;
  thousandths : size l.t.thousandths ≤ (16 - l.i) * 2 ^ 41;
  totals : (bs : List ℕ) → Totals (drop l.i (meaning_l bs l.l)) l.t;
}
