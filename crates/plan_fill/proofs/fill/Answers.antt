-- `fill`: the lists, the rows, the order and who waits, one behind the other.
use Rattle.std.proofs.Common.{ℕ, length, rules, ap, ◌∙◌}
use Rattle.std.proofs.lemmas.List.{length-replicate}
use Rattle.plan_fill.specs.Filling.{fills_long, fills_tasks, fills_items, fills_all}
use Rattle.plan_fill.proofs.fill.Goals as goal

pub returns-then-n-gt-ROWS : goal.returns-then-n-gt-ROWS
returns-then-n-gt-ROWS c = let a = c.args in fills_long a.rows.now a.n a.bytes.now a.f.now _ _ (ap length c.clear.ensures ∙ length-replicate (length a.f.now) 0) c.if-n-gt-ROWS.true

pub returns-then-m-gt-LIMIT : goal.returns-then-m-gt-LIMIT
returns-then-m-gt-LIMIT c = let a = c.args in fills_tasks a.rows.now a.n a.bytes.now a.f.now _ _ (ap length c.clear.ensures ∙ length-replicate (length a.f.now) 0) c.gather-m.ensures c.if-m-gt-LIMIT.true

pub returns-then-d-gt-LIMIT : goal.returns-then-d-gt-LIMIT
returns-then-d-gt-LIMIT c = let a = c.args in fills_items a.rows.now a.n a.bytes.now a.f.now _ _ (ap length c.clear.ensures ∙ length-replicate (length a.f.now) 0) c.gather-d.ensures c.if-d-gt-LIMIT.true

pub returns : goal.returns
returns c =
    let a = c.args in
    fills_all a.rows.now a.n a.bytes.now a.f.now _ _ (search rules)
    c.gather-m.ensures (length-replicate {A = ℕ} 32 0) c.if-m-gt-LIMIT.false
    c.gather-d.ensures (length-replicate {A = ℕ} 64 0) c.if-d-gt-LIMIT.false
    c.clear.ensures c.columns.ensures c.order.ensures c.waiting.ensures
