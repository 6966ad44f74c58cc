-- `items`: no part is passed at first, and then one more.
use Rattle.std.proofs.Common.{ℕ, ◌+◌, ◌-◌, ◌*◌, true, false, get_or, replicate, subst, refl, ◌∙◌, arith}
use Rattle.std.proofs.Math.ListN.{get_or-replicate, length-set}
use Rattle.truths.specs.Part.{part_of}
use Rattle.why.specs.Mentions.{Named, Mentioned, mentioned_none, mentioned_more}
use Rattle.why.proofs.mentions.items.Goals as goal

pub loop-p-init : goal.loop-p-init
loop-p-init c =
    let a = c.args in
    let P : ℕ → ℕ → Type 0 = Named a.parts.now a.texts.now (part_of a.plan.now 1256 (get_or a.plan.now 1 0)) in
    record {
      size = refl;
      told = subst (λ (y : ℕ). Mentioned P 64 y c.back-p.result (replicate 65 false)) c.back-p.ensures (mentioned_none P 64 c.back-p.result (replicate 65 false) (λ d l. get_or-replicate 65 d false false (omega arith)));
    }

pub loop-p-preserved : goal.loop-p-preserved
loop-p-preserved c =
    let a = c.args in
    let b = c.back-p.ensures in
    let P : ℕ → ℕ → Type 0 = Named a.parts.now a.texts.now (part_of a.plan.now 1256 (get_or a.plan.now 1 0)) in
    let v = c.loop-p.invariant in
    record {
      size = length-set c.loop-p.m c.item_at-d.result true ∙ v.size;
      told = mentioned_more P 64 (a.e - get_or a.parts.now ((a.e - 1) * 4 + 2) 0) c.loop-p.p c.item_at-d.result c.loop-p.m v.size (omega arith) c.item_at-d.ensures v.told;
    }
