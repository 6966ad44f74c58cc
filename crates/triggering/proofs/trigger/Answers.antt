-- `trigger`: by its cases, and the tasks passed.
use Rattle.std.proofs.Common.{rules, arith}
use Rattle.triggering.specs.Hit.{sent_more, sent_all}
use Rattle.triggering.specs.Trigger.{trigger_unready, trigger_large, trigger_sent}
use Rattle.triggering.proofs.trigger.Goals as goal

pub returns-then-not-ready : goal.returns-then-not-ready
returns-then-not-ready c = search (rules, trigger_unready)

pub returns-then-not-small_text : goal.returns-then-not-small_text
returns-then-not-small_text c = search (rules, trigger_large)

pub loop-t-preserved : goal.loop-t-preserved
loop-t-preserved c = sent_more c.args.plan.now c.args.texts.now c.args.name.now c.args.state.now c.loop-t.t c.loop-t.state c.step.new.s (omega arith) c.step.ensures c.loop-t.invariant

pub returns : goal.returns
returns c =
    trigger_sent c.args.name.now c.args.texts.now c.args.plan.now c.args.state.now c.ready.ensures (search rules) c.small_text.ensures (search rules)
    (sent_all c.args.plan.now c.args.texts.now c.args.name.now c.args.state.now c.loop-t.t (omega arith) c.loop-t.invariant)
