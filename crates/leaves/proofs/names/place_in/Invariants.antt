-- `place_in`: the names left decide what all decide.
use Rattle.std.proofs.Common.{◌≡◌, ◌-◌}
use Rattle.parts.specs.Texts.{cells}
use Rattle.leaves.specs.Places.{entry, place_from}
use Rattle.leaves.proofs.names.place_in.Given as goal

abbrev pub invariant-loop-i : goal.invariant-loop-i
invariant-loop-i l =
    place_from (entry l.names l.lengths l.width) (cells l.text l.at l.n) l.i (l.count - l.i) ≡ place_from (entry l.names l.lengths l.width) (cells l.text l.at l.n) 0 l.count
