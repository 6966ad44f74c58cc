-- `is_alike`: the letters passed are alike.
use Rattle.std.proofs.Common.{get_or}
use Rattle.paper_expressions.specs.Bytes.{fold}
use Rattle.known_names.specs.NameLaws.{Shared, letters}
use Rattle.known_names.proofs.lookup.is_alike.Given as goal

abbrev pub invariant-loop-i : goal.invariant-loop-i
invariant-loop-i l = Shared (λ k. fold (get_or l.name k 0)) (λ k. fold (letters l.texts l.h k)) l.i
