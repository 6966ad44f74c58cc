-- `first_with`: before each turn the first is looked for from the column on.
use Rattle.std.proofs.Common.{◌≡◌, ℕ, ◌-◌, eqb, get_or}
use Rattle.season_answer.specs.Columns.{first_from}
use Rattle.season_answer.proofs.places.first_with.Given as goal

abbrev pub invariant-loop-j : goal.invariant-loop-j
invariant-loop-j l = first_from (λ (k : ℕ). eqb (get_or l.columns k 0) l.c) l.j (l.i - l.j) ≡ first_from (λ (k : ℕ). eqb (get_or l.columns k 0) l.c) 0 l.i
