-- `seek` finds what `seek_in` finds: it is still to be found from a on.
use Rattle.std.proofs.Common.{◌≡◌}
use Rattle.std.proofs.Math.Seq.{slice}
use Rattle.grammar.specs.Tables.{alternatives, seek_in}
use Rattle.grammar.proofs.seek.Given as goal

abbrev pub invariant-loop-a : goal.invariant-loop-a
invariant-loop-a l = seek_in l.k l.from (slice l.from l.to alternatives) ≡ seek_in l.k l.a (slice l.a l.to alternatives)
