-- `times`: before each turn those that have the name are counted.
use Rattle.std.proofs.Common.{◌≡◌, ◌≤◌, false, length}
use Rattle.bare_tokens.specs.Listed.{passing}
use Rattle.bare_names.specs.Told.{met_at}
use Rattle.bare_names.proofs.told.Tokens.times.Given as goal

abbrev pub invariant-loop-j : goal.invariant-loop-j
invariant-loop-j l = (l.c ≤ l.j) × (l.c ≡ length (passing (met_at l.self.text.now l.self.places.now l.self.lengths.now false l.w l.list) l.j))
