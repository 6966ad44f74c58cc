-- Before each turn the columns hold the tokens up to the cursor.
use Rattle.std.proofs.Common.{length, ◌-◌}
use Rattle.matches.specs.Walk.{Marks}
use Rattle.tokens.specs.Loop.{Upto}
use Rattle.tokens.proofs.fill.Given as goal

abbrev pub invariant-loop-token : goal.invariant-loop-token
invariant-loop-token l = Marks l.text l.cursor.last × Upto l.text (length l.fn.kinds) (length l.fn.places) (length l.fn.lengths) l.cursor.at l.n l.b l.kinds l.places l.lengths

abbrev pub decreases-loop-token : goal.decreases-loop-token
decreases-loop-token l = length l.text - l.cursor.at
