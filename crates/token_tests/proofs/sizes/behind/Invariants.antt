-- `behind`: the bytes left decide what all decide.
use Rattle.std.proofs.Common.{◌≡◌, length, drop}
use Rattle.paper_tokens.specs.Literals.{behind_point}
use Rattle.token_tests.proofs.sizes.behind.Given as goal

abbrev pub invariant-loop-i : goal.invariant-loop-i
invariant-loop-i l = length (behind_point (drop l.i l.b-items)) ≡ length (behind_point l.b-items)
