-- `rest`: each chunk is seen behind those before it.
use Rattle.told_refusal.specs.Taken.{SeesOn}
use Rattle.told_refusal.proofs.rest.Given as goal

abbrev pub invariant-loop : goal.invariant-loop
invariant-loop l = SeesOn l.fn.s l.now
