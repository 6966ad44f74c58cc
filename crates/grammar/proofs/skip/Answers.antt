-- `skip`: behind the last cell nothing is left to pass over.
use Rattle.std.proofs.Common.{ℕ, ◌≡◌, arith, ap, sym, ◌∙◌}
use Rattle.grammar.specs.Machine.{past}
use Rattle.grammar.proofs.MachineLaws.{syms, past_end}
use Rattle.grammar.proofs.skip.Goals as goal

pub returns : goal.returns
returns c =
    let z : c.loop-at.at ≡ 32768 = omega arith in
    let s = c.args.stack.now in
    ((omega arith, omega arith), past_end s 32768 c.args.k (omega arith) ∙ sym (c.loop-at.invariant ∙ ap (λ (i : ℕ). past c.args.k (syms i s)) z))
