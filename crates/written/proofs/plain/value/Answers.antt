-- `value`: what answers write of a value is what their notation does.
use Rattle.values.specs.Meaning.{meaning_v}
use Rattle.digits.specs.AppendsLaws.{appends_as}
use Rattle.written.specs.Joined.{value_same}
use Rattle.written.proofs.plain.value.Goals as goal

pub returns : goal.returns
returns c = appends_as (value_same (meaning_v c.args.bytes.now c.args.v)) c.value_in.ensures
