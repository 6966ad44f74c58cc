-- `in_tables`: by the first refusal.
use Rattle.season.specs.OneLineLaws.{refused_as, ran_as}
use Rattle.season.proofs.one_line.in_tables.Goals as goal

pub returns-then-r-ne-NONE : goal.returns-then-r-ne-NONE
returns-then-r-ne-NONE c = refused_as c.add_fields-r.ensures c.if-r-ne-NONE.true c.write_refused.ensures

pub returns : goal.returns
returns c = ran_as c.add_fields-r.ensures c.if-r-ne-NONE.false c.run-e.ensures c.write_ended.ensures
