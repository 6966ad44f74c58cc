-- `next`: a leaf is found, is further on, or is none of the tokens.
use Rattle.std.proofs.Common.{◌≡◌, sym, ◌∙◌, arith}
use Rattle.told_refusal.specs.LeavesLaws.{leaf_past, leaf_here, leaf_later}
use Rattle.told_refusal.proofs.leaf.next.Goals as goal

pub returns-then-is_leaf : goal.returns-then-is_leaf
returns-then-is_leaf c = sym (leaf_here c.args.kinds.now c.loop-k.k c.loop-k-test.true (sym c.is_leaf.ensures ∙ c.if-is_leaf.true)) ∙ c.loop-k.invariant.1

pub loop-k-preserved : goal.loop-k-preserved
loop-k-preserved c = (omega arith, sym (leaf_later c.args.kinds.now c.loop-k.k c.loop-k-test.true (sym c.is_leaf.ensures ∙ c.if-is_leaf.false)) ∙ c.loop-k.invariant.1)

pub returns : goal.returns
returns c =
    let e : c.max.result ≡ c.loop-k.k = omega arith in
    e ∙ sym (leaf_past c.args.kinds.now c.loop-k.k c.loop-k-test.false) ∙ c.loop-k.invariant.1
