-- `rest`: each chunk is seen behind those before it.
use Rattle.told_refusal.specs.TakenLaws.{sees_more}
use Rattle.told_refusal.proofs.rest.Goals as goal

pub loop-preserved : goal.loop-preserved
loop-preserved c = sees_more c.loop.invariant c.in-Some.ensures
