-- `take`: what is right from the place where the loop stands is right from the first one.
use Rattle.std.proofs.Common.{ℕ, List, length, max, ◌≤◌}
use Rattle.lines.specs.Kept.{Takes}
use Rattle.lines.specs.declared.Taken.{Taken}
use Rattle.lines.proofs.take.Given as goal

abbrev pub invariant-loop-at : goal.invariant-loop-at
invariant-loop-at l = record {
  within : l.at ≤ max l.from (length l.chunk);
  right : (kept' : List ℕ) (r : Taken) → Takes l.chunk l.at l.kept l.n kept' r → Takes l.chunk l.from l.fn.kept l.fn.n kept' r;
}
