-- `is_same`: the letters passed are the same.
use Rattle.std.proofs.Common.{get_or}
use Rattle.known_names.specs.NameLaws.{Shared, letters}
use Rattle.known_names.proofs.lookup.is_same.Given as goal

abbrev pub invariant-loop-i : goal.invariant-loop-i
invariant-loop-i l = Shared (λ k. get_or l.name k 0) (letters l.texts l.h) l.i
