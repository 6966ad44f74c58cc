-- `tasks`: no part is passed at first, and then one more.
use Rattle.std.proofs.Common.{ℕ, ◌+◌, ◌-◌, ◌*◌, true, false, get_or, replicate, subst, refl, ◌∙◌, arith}
use Rattle.std.proofs.Math.ListN.{get_or-replicate, length-set}
use Rattle.truths.specs.Part.{part_of}
use Rattle.why.specs.Mentions.{Asks, Mentioned, mentioned_none, mentioned_more}
use Rattle.why.proofs.mentions.tasks.Goals as goal

pub loop-p-init : goal.loop-p-init
loop-p-init c =
    let a = c.args in
    let P : ℕ → ℕ → Type 0 = Asks a.parts.now a.texts.now (part_of a.plan.now 1256 (get_or a.plan.now 1 0)) (part_of a.plan.now 1193 (get_or a.plan.now 0 0 - 1)) in
    record {
      size = refl;
      told = subst (λ (y : ℕ). Mentioned P 32 y c.back-p.result (replicate 33 false)) c.back-p.ensures (mentioned_none P 32 c.back-p.result (replicate 33 false) (λ d l. get_or-replicate 33 d false false (omega arith)));
    }

pub loop-p-preserved : goal.loop-p-preserved
loop-p-preserved c =
    let a = c.args in
    let b = c.back-p.ensures in
    let P : ℕ → ℕ → Type 0 = Asks a.parts.now a.texts.now (part_of a.plan.now 1256 (get_or a.plan.now 1 0)) (part_of a.plan.now 1193 (get_or a.plan.now 0 0 - 1)) in
    let v = c.loop-p.invariant in
    record {
      size = length-set c.loop-p.m c.task_at-t.result true ∙ v.size;
      told = mentioned_more P 32 (a.e - get_or a.parts.now ((a.e - 1) * 4 + 2) 0) c.loop-p.p c.task_at-t.result c.loop-p.m v.size (omega arith) c.task_at-t.ensures v.told;
    }
