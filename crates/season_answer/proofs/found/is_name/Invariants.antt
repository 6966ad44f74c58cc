-- `is_name`: before each turn the bytes that are left decide what all decide.
use Rattle.std.proofs.Common.{◌≡◌, ◌+◌, ◌-◌, ◌/◌, length, drop}
use Rattle.paper_expressions.proofs.Laws.Search.{alikeb}
use Rattle.parts.specs.Texts.{cells}
use Rattle.season_answer.proofs.found.is_name.Given as goal

abbrev pub invariant-loop-i : goal.invariant-loop-i
invariant-loop-i l = alikeb (cells l.texts (l.h / 64 + l.i) (length l.name - l.i)) (drop l.i l.name) ≡ alikeb (cells l.texts (l.h / 64) (length l.name)) l.name
