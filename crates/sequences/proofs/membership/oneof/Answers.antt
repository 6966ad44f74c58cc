-- `oneof`: includes, turned round.
use Rattle.sequences.proofs.Elements.{oneof_is}
use Rattle.sequences.proofs.membership.oneof.Goals as goal

pub returns : goal.returns
returns c = let a = c.args in oneof_is a.bytes.now a.a a.b c.includes.result c.includes.ensures
