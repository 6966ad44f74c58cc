-- `any`: none is passed, one more, all.
use Rattle.std.proofs.Common.{arith, sym, ap, ◌∙◌, Bool, ◌||◌}
use Rattle.waits.specs.Booleans.{any_none, any_more}
use Rattle.waits.specs.Twins.{marked}
use Rattle.task_rows.specs.Answers.{any_all}
use Rattle.task_rows.proofs.any.Goals as goal

pub loop-mark-init : goal.loop-mark-init
loop-mark-init c = any_none _

pub loop-mark-preserved : goal.loop-mark-preserved
loop-mark-preserved c =
    let l = c.loop-mark in
    ap (λ (y : Bool). y || marked c.args.row l.mark-index) l.invariant ∙ sym (any_more (marked c.args.row) l.mark-index)

pub returns : goal.returns
returns c = any_all (marked c.args.row) c.loop-mark.mark-index (omega arith) c.loop-mark.invariant
