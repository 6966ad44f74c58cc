-- `item_at`: no atom, one that names none, or one that names this.
use mathlib.Core.Path.{ap, ◌∙◌}
use lib.ListN.{get_or}
use Rattle.truths.specs.Part.{part_of}
use Rattle.why.specs.Mentions.{item_not, item_far, item_none, item_here}
use borrow.Author.Rules.{rules}
use Rattle.why.proofs.mentions.item_at.Statement.{statement}
use Rattle.why.proofs.mentions.item_at.Tie as tie

returns : tie.Need-returns-then-code-ne-ATOM
returns c =
    let a = c.before.before.before.before.before.args in
    item_not a.parts.now a.texts.now (part_of a.plan.now 1256 (get_or a.plan.now 1 0)) a.p c.before.code.ensures c.if-code-ne-ATOM.true

returns-2 : tie.Need-returns-then-d-ge-LIMIT
returns-2 c =
    let a = c.before.before.before.before.before.before.before.before.before.before.args in
    item_far a.parts.now a.texts.now (part_of a.plan.now 1256 (get_or a.plan.now 1 0)) a.p (c.before.before.before.part-names.ensures ∙ ap (part_of a.plan.now 1256) c.before.before.before.before.number.ensures) c.before.before.load.ensures c.before.find-d.ensures c.if-d-ge-LIMIT.true

returns-3 : tie.Need-returns-then-names-d
returns-3 c =
    let a = c.before.before.before.before.before.before.before.before.before.before.before.args in
    item_none a.parts.now a.texts.now (part_of a.plan.now 1256 (get_or a.plan.now 1 0)) a.p (c.before.before.before.before.part-names.ensures ∙ ap (part_of a.plan.now 1256) c.before.before.before.before.before.number.ensures) c.before.before.before.load.ensures c.before.before.find-d.ensures c.if-names-d.true

returns-4 : tie.Need-returns
returns-4 c =
    let a = c.before.before.before.before.before.before.before.before.before.before.before.args in
    item_here a.parts.now a.texts.now (part_of a.plan.now 1256 (get_or a.plan.now 1 0)) a.p (c.before.before.before.before.part-names.ensures ∙ ap (part_of a.plan.now 1256) c.before.before.before.before.before.number.ensures) c.before.before.before.load.ensures c.before.before.find-d.ensures c.before.before.before.before.before.before.before.code.ensures c.before.before.before.before.before.before.if-code-ne-ATOM.false c.before.if-d-ge-LIMIT.false c.if-names-d.false

pub item_at_spec : {M : Type 1} → statement M
item_at_spec = tie.close (tie.spec (λ c κs. search rules) returns (λ c κs. search rules) (λ c κs. search rules) (λ c κs. search rules) (λ c. search rules) (λ c κs. search rules) returns-2 returns-3 returns-4)
