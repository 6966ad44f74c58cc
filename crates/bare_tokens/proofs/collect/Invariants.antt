-- Before each turn the lists hold the tokens that were passed, and what the next token stands in is told by them.
use Rattle.std.proofs.Common.{◌≡◌}
use Rattle.bare_tokens.specs.Listed.{Listed}
use Rattle.bare_tokens.specs.Bare.{within, item-at, task_at, bare_at}
use Rattle.bare_tokens.proofs.collect.Given as goal

abbrev pub invariant-loop-i : goal.invariant-loop-i
invariant-loop-i l =
    (l.w ≡ within l.kinds l.i) × Listed (item-at l.kinds) l.i l.fn.items l.items l.counts.items × Listed (task_at l.kinds) l.i l.fn.tasks l.tasks l.counts.tasks
    × Listed (bare_at l.text l.kinds l.places) l.i l.fn.names l.names l.counts.bare
