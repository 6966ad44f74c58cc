-- `gather`: none yet, one task more, and all.
use Rattle.std.proofs.Common.{arith}
use Rattle.season_answer.specs.FieldsLaws.{reached_none, reached_at, reached_all}
use Rattle.season_answer.proofs.tasks.gather.Goals as goal

pub loop-t-init : goal.loop-t-init
loop-t-init c = λ h. reached_none c.args.plan.now c.args.texts.now c.args.state.now c.args.names.now

pub loop-t-preserved : goal.loop-t-preserved
loop-t-preserved c =
    let a = c.args in
    let l = c.loop-t in
    λ h. c.next-p.ensures a.names.now (reached_at a.plan.now a.texts.now a.state.now l.t (omega arith) h (l.invariant h)) (l.invariant h)

pub returns : goal.returns
returns c = λ h. reached_all c.args.plan.now c.args.texts.now c.args.state.now c.loop-t.t (omega arith) (c.loop-t.invariant h)
