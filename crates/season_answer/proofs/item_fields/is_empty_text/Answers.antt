-- `is_empty_text`: one value is, if it has no bytes.
use Rattle.season_answer.specs.FieldsLaws.{not_true}
use Rattle.season_answer.specs.ValuesLaws.{one_empty}
use Rattle.season_answer.proofs.item_fields.is_empty_text.Goals as goal

pub returns-then-not-v : goal.returns-then-not-v
returns-then-not-v c = one_empty c.args.v (not_true c.args.v.many c.if-not-v.true) c.is_empty.ensures
