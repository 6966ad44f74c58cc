-- `gather`: the rows so far, as they are counted and entered.
use Rattle.std.proofs.Common.{◌≡◌, ◌≤◌}
use Rattle.name_tests.specs.Lists.{chosen, tally, Entered}
use Rattle.name_tests.proofs.lists.gather.Given as goal

abbrev pub invariant-loop-i : goal.invariant-loop-i
invariant-loop-i l = (l.m ≤ l.i) × (l.m ≡ tally (chosen l.tasks) l.rows l.i) × Entered (chosen l.tasks) l.rows l.list l.i
