-- `confirm`: by its cases.
use Rattle.std.proofs.Common.{rules, arith}
use Rattle.confirming.specs.Confirm.{confirm_unready, confirm_none, confirm_set}
use Rattle.confirming.proofs.confirm.Goals as goal
use Rattle.confirming.proofs.confirm.Goals.{then-task-n-via-then-task-n, then-task-n-via-else-task-n+then-task-ge-TASKS}

pub returns-then-not-ready : goal.returns-then-not-ready
returns-then-not-ready c = search (rules, confirm_unready)

pub returns-then-task-n : goal.returns-then-task-n
returns-then-task-n c =
    let none = confirm_none c.args.task c.args.plan.now c.args.state.now c.ready.ensures (search rules) c.cell.ensures in
    elim c.then-task-n.branch [ then-task-n-via-then-task-n w ↦ none (λ z. (let l = z.0 in omega arith)) | then-task-n-via-else-task-n+then-task-ge-TASKS w ↦ none (λ z. (let l = z.1 in omega arith)) ]

pub returns : goal.returns
returns c = confirm_set _ _ _ c.ready.ensures (search rules) c.cell.ensures (omega arith) (omega arith) c.make_true.ensures
