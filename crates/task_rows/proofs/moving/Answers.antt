-- `moving`: by its two cells.
use Rattle.task_rows.specs.Answers.{moving_by}
use Rattle.std.proofs.Common.{ℕ, ◌+◌, ◌∙◌, ap, get_or}
use Rattle.task_rows.proofs.moving.Goals as goal

pub returns : goal.returns
returns c = moving_by c.args.s.now c.args.p c.args.t (c.cell.ensures ∙ ap (λ (q : ℕ). get_or c.args.s.now (q + c.args.t) 0) c.from-q.ensures) (c.cell-2.ensures ∙ ap (λ (q : ℕ). get_or c.args.s.now (q + 32 + c.args.t) 0) c.from-q.ensures) c.by_cells.ensures
