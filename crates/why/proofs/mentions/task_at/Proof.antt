-- `task_at`: each test by its own lemma.
use Prim.Native.Nat.{◌-◌}
use lib.ListN.{get_or}
use borrow.Author.Tests.{not-true, not-false}
use Rattle.truths.specs.Part.{part_of}
use Rattle.why.specs.Mentions.{asks_first, asks_no_state, asks_no_text, asks_item, asks_task}
use borrow.Author.Rules.{rules}
use Rattle.why.proofs.mentions.task_at.Statement.{statement}
use Rattle.why.proofs.mentions.task_at.Tie as tie

returns : tie.Need-returns-then-p-eq0
returns c =
    let a = c.before.before.before.before.args in
    asks_first a.parts.now a.texts.now (part_of a.plan.now 1256 (get_or a.plan.now 1 0)) (part_of a.plan.now 1193 (get_or a.plan.now 0 0 - 1)) a.p c.if-p-eq0.true

returns-2 : tie.Need-returns-then-not-is_state
returns-2 c =
    let a = c.before.before.before.before.before.before.before.args in
    asks_no_state a.parts.now a.texts.now (part_of a.plan.now 1256 (get_or a.plan.now 1 0)) (part_of a.plan.now 1193 (get_or a.plan.now 0 0 - 1)) a.p c.before.before.code.ensures c.before.is_state.ensures (not-true c.before.is_state.result c.if-not-is_state.true-raw)

returns-3 : tie.Need-returns-then-not-is_text
returns-3 c =
    let a = c.before.before.before.before.before.before.before.before.before.before.args in
    asks_no_text a.parts.now a.texts.now (part_of a.plan.now 1256 (get_or a.plan.now 1 0)) (part_of a.plan.now 1193 (get_or a.plan.now 0 0 - 1)) a.p c.before.before.code-2.ensures c.before.is_text.ensures (not-true c.before.is_text.result c.if-not-is_text.true-raw)

returns-4 : tie.Need-returns-then-item_at-lt-LIMIT
returns-4 c =
    let a = c.before.before.before.before.before.before.before.before.before.before.before.before.args in
    asks_item a.parts.now a.texts.now (part_of a.plan.now 1256 (get_or a.plan.now 1 0)) (part_of a.plan.now 1193 (get_or a.plan.now 0 0 - 1)) a.p c.before.item_at.ensures c.if-item_at-lt-LIMIT.true

returns-5 : tie.Need-returns
returns-5 c =
    let a = c.before.before.before.before.before.before.before.before.before.before.before.before.before.args in
    asks_task a.parts.now a.texts.now (part_of a.plan.now 1256 (get_or a.plan.now 1 0)) (part_of a.plan.now 1193 (get_or a.plan.now 0 0 - 1)) a.p c.before.before.before.before.before.before.before.before.before.if-p-eq0.false c.before.before.before.before.before.before.before.before.code.ensures c.before.before.before.before.before.before.before.is_state.ensures (not-false c.before.before.before.before.before.before.before.is_state.result c.before.before.before.before.before.before.if-not-is_state.false-raw) c.before.before.before.before.before.code-2.ensures c.before.before.before.before.is_text.ensures (not-false c.before.before.before.before.is_text.result c.before.before.before.if-not-is_text.false-raw) c.before.before.item_at.ensures c.before.if-item_at-lt-LIMIT.false c.named.ensures

pub task_at_spec : {M : Type 1} → statement M
task_at_spec = tie.close (tie.spec returns (λ c κs. search rules) (λ c κs. search rules) returns-2 (λ c. search rules) (λ c κs. search rules) (λ c κs. search rules) returns-3 (λ c. search rules) (λ c κs. search rules) returns-4 (λ c. search rules) (λ c κs. search rules) returns-5)
