-- `each`: the rows of the tasks passed, and how many they are at most.
use Rattle.std.proofs.Common.{◌≡◌}
use Rattle.review.specs.Changes.{EachUpto, Counted}
use Rattle.review.proofs.each.Given as goal

abbrev pub invariant-loop-t : goal.invariant-loop-t
invariant-loop-t l = record {
  rows : EachUpto l.s l.f l.clock l.initialises l.starts l.discards l.completes l.t l.fn.out l.rows.cells.now l.rows.count;
  few : Counted l.f l.t l.rows.count;
  same : l.rows.cells.ghost_name ≡ l.initial.rows.cells.ghost_name;
}
