-- `next`: what is read is seen.
use Rattle.told_refusal.proofs.next.Goals as goal

pub returns : goal.returns
returns c = record { bytes = _; sees = c.see.ensures }
