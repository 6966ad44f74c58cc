-- `alike`: the bytes left decide what all decide.
use Rattle.std.proofs.Common.{◌≡◌, ◌+◌, ◌-◌}
use Rattle.paper_expressions.proofs.Laws.Search.{alikeb}
use Rattle.parts.specs.Texts.{cells}
use Rattle.parts.proofs.names.alike.Given as goal

abbrev pub invariant-loop-i : goal.invariant-loop-i
invariant-loop-i l = alikeb (cells l.bytes l.x l.n) (cells l.bytes l.y l.n) ≡ alikeb (cells l.bytes (l.x + l.i) (l.n - l.i)) (cells l.bytes (l.y + l.i) (l.n - l.i))
