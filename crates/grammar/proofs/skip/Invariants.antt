-- `skip` is `past`: what was passed makes no difference.
use Rattle.std.proofs.Common.{◌≡◌}
use Rattle.grammar.specs.Machine.{past}
use Rattle.grammar.proofs.MachineLaws.{syms}
use Rattle.grammar.proofs.skip.Given as goal

abbrev pub invariant-loop-at : goal.invariant-loop-at
invariant-loop-at l = past l.k (syms l.top l.stack) ≡ past l.k (syms l.at l.stack)
