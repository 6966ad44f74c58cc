-- `row`: by the places passed.
use Rattle.std.specs.Prelude.{ℕ, ◌+◌, eqb, get_or, false}
use Rattle.square.specs.Square.{Upto}
use Rattle.square.proofs.row.Given as goal

abbrev pub invariant-loop-j : goal.invariant-loop-j
invariant-loop-j l = Upto (λ (i : ℕ). eqb (get_or l.bytes (l.p + i) 0) 1) false l.j l.mark-items
