-- `same_text`: another size, another byte, and all bytes the same.
use Rattle.std.proofs.Common.{arith, refl, ◌∙◌, ne_eqb}
use Rattle.triggering.specs.Hit.{other_size, other_byte, agreed}
use Rattle.triggering.proofs.same_text.Goals as goal

pub returns-then-h-name : goal.returns-then-h-name
returns-then-h-name c = other_size c.args.b.now c.args.h c.args.name.now c.if-h-name.true

pub returns-then-at-x : goal.returns-then-at-x
returns-then-at-x c =
    other_byte c.args.b.now c.args.h c.args.name.now c.loop-k.k (omega arith) refl (ne_eqb _ _ (λ e. c.if-at-x.true (c.at.ensures ∙ e)))

pub returns : goal.returns
returns c = agreed c.args.b.now c.args.h c.args.name.now c.loop-k.k c.if-h-name.false (omega arith) c.loop-k.invariant
