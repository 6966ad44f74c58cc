-- `newlines`: before each turn those among the bytes passed are counted.
use Rattle.std.proofs.Common.{◌≡◌, ◌≤◌, eqb, take}
use Rattle.std.specs.List.{count_by}
use Rattle.spot.proofs.lines.newlines.Given as goal

abbrev pub invariant-loop-b : goal.invariant-loop-b
invariant-loop-b l = (l.n ≡ count_by (λ b. eqb b 10) (take l.b-index l.text)) × (l.n ≤ l.b-index)
