-- `named`: too far, not there, or this.
use mathlib.Core.Path.{ap, ◌∙◌}
use Prim.Native.Nat.{ℕ, ◌+◌, ◌*◌, ◌-◌}
use lib.ListN.{get_or}
use Rattle.truths.specs.Part.{part_of}
use Rattle.why.specs.Mentions.{task_far, task_none, task_here}
use borrow.Author.Rules.{rules}
use Rattle.why.proofs.mentions.named.Statement.{statement}
use Rattle.why.proofs.mentions.named.Tie as tie

returns : tie.Need-returns-then-k-ge-LIMIT
returns c =
    let a = c.before.before.before.before.before.before.before.before.before.args in
    task_far a.texts.now (part_of a.plan.now 1193 (get_or a.plan.now 0 0 - 1)) (get_or a.parts.now (a.p * 4 + 3) 0) (c.before.before.before.part-names.ensures ∙ ap (part_of a.plan.now 1193) (c.before.before.before.before.others-n.ensures ∙ ap (λ (y : ℕ). y - 1) c.before.before.before.before.before.number.ensures)) c.before.before.load.ensures c.before.find-k.ensures c.if-k-ge-LIMIT.true

returns-2 : tie.Need-returns-then-names-k
returns-2 c =
    let a = c.before.before.before.before.before.before.before.before.before.before.args in
    task_none a.texts.now (part_of a.plan.now 1193 (get_or a.plan.now 0 0 - 1)) (get_or a.parts.now (a.p * 4 + 3) 0) (c.before.before.before.before.part-names.ensures ∙ ap (part_of a.plan.now 1193) (c.before.before.before.before.before.others-n.ensures ∙ ap (λ (y : ℕ). y - 1) c.before.before.before.before.before.before.number.ensures)) c.before.before.before.load.ensures c.before.before.find-k.ensures c.if-names-k.true

returns-3 : tie.Need-returns
returns-3 c =
    let a = c.before.before.before.before.before.before.before.before.before.before.args in
    task_here a.texts.now (part_of a.plan.now 1193 (get_or a.plan.now 0 0 - 1)) (get_or a.parts.now (a.p * 4 + 3) 0) (c.before.before.before.before.part-names.ensures ∙ ap (part_of a.plan.now 1193) (c.before.before.before.before.before.others-n.ensures ∙ ap (λ (y : ℕ). y - 1) c.before.before.before.before.before.before.number.ensures)) c.before.before.before.load.ensures c.before.before.find-k.ensures c.before.if-k-ge-LIMIT.false c.if-names-k.false

pub named_spec : {M : Type 1} → statement M
named_spec = tie.close (tie.spec (λ c κs. search rules) (λ c κs. search rules) (λ c. search rules) (λ c κs. search rules) (λ c κs. search rules) (λ c. search rules) (λ c κs. search rules) returns returns-2 (λ c. search rules) returns-3)
