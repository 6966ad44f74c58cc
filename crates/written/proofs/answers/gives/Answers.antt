-- `gives`: the name, a blank and the value.
use Rattle.values.specs.Meaning.{meaning_v}
use Rattle.written.specs.Named.{answered}
use Rattle.written.proofs.answers.gives.Goals as goal

pub returns : goal.returns
returns c = let a = c.args in answered (meaning_v a.bytes.now a.v) c.type_name-p.ensures c.byte-q.ensures c.value.ensures
