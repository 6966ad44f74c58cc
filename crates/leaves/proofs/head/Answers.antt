-- `head`: the name between the quotes is looked up, and its own load where it is none of section 11.
use Rattle.std.proofs.Common.{refl}
use Rattle.leaves.specs.Leaf.{head_known, head_unknown}
use Rattle.leaves.proofs.head.Goals as goal

pub returns-then-k : goal.returns-then-k
returns-then-k c =
    let s = c.inside-s in
    λ t k g l. head_unknown g c.requires (record { kind = c.functor-k.result; load = c.handle-x.result }) s.result.at s.result.n s.ensures.0 s.ensures.1 c.functor-k.ensures c.if-k.true c.handle-x.ensures l

pub returns-else-k : goal.returns-else-k
returns-else-k c =
    let s = c.inside-s in
    λ t k g l. head_known g c.requires (record { kind = c.functor-k.result; load = 0 }) s.result.at s.result.n s.ensures.0 c.functor-k.ensures c.if-k.false refl
