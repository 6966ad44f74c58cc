-- `value`: a literal of a value is what its notation writes.
use Rattle.values.specs.Meaning.{meaning_v}
use Rattle.digits.specs.AppendsLaws.{appends_as}
use Rattle.transcript_values.specs.Joined.{value_same}
use Rattle.transcript_values.proofs.lists.value.Goals as goal

pub returns : goal.returns
returns c = appends_as (value_same (meaning_v c.args.bytes.now c.args.v)) c.value_in.ensures
