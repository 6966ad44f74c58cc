-- `spot`: the two cases of the definition.
use Rattle.names.proofs.VerdictLaws.{spot_word, spot_name}
use Rattle.names.proofs.flaws.spot.Goals as goal

pub returns-then-once : goal.returns-then-once
returns-then-once c = spot_word c.args.rows.now c.args.j c.kind.ensures c.once.ensures c.if-once.true c.word.ensures

pub returns-else-once : goal.returns-else-once
returns-else-once c = spot_name c.args.rows.now c.args.j c.kind.ensures c.once.ensures c.if-once.false c.place.ensures
