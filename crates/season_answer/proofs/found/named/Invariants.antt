-- `named`: before each turn the first is looked for from the item on.
use Rattle.std.proofs.Common.{◌≡◌, ◌-◌}
use Rattle.season_answer.specs.Columns.{first_from, has_name}
use Rattle.season_answer.proofs.found.named.Given as goal

abbrev pub invariant-loop-d : goal.invariant-loop-d
invariant-loop-d l = first_from (has_name l.plan l.texts l.name) l.d (l.n - l.d) ≡ first_from (has_name l.plan l.texts l.name) 0 l.n
