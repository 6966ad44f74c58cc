-- `broken`: a task by the test of the kind; what is none of the named kinds as an attribute.
use Rattle.std.proofs.Common.{sym, ap, ◌∙◌, arith}
use Rattle.row_names.specs.Sheet.{task_kind}
use Rattle.explain_rows.specs.Rules.{named_kind, kind_is, not_named}
use Rattle.explain_rows.proofs.rules.broken.Goals as goal

pub returns-then-is_task : goal.returns-then-is_task
returns-then-is_task c = c.of_task.ensures c.args.n (kind_is task_kind c.kind-k.ensures c.is_task.ensures c.if-is_task.true)

pub returns-in_default-2 : goal.returns-in_default-2
returns-in_default-2 c =
    let a = c.args in
    let d = c.in_default-2 in
    c.of_attribute.ensures a.n a.bytes.now
    (sym (ap named_kind c.kind-k.ensures) ∙ not_named c.kind-k.result (sym c.is_task.ensures ∙ c.if-is_task.false) (λ z. omega arith) (λ z. omega arith) (λ z. omega arith) (λ z. omega arith) (λ z. omega arith))
