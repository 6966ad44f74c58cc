-- `add`: nothing where the field is empty, else what comes of it in blank cells.
use Rattle.std.proofs.Common.{arith}
use Rattle.season.specs.Series.{no_field, a_field}
use Rattle.season.proofs.one_value.add.Goals as goal

pub returns-then-field-eq0 : goal.returns-then-field-eq0
returns-then-field-eq0 c = no_field c.if-field-eq0.true

pub returns : goal.returns
returns c = a_field (λ e. omega arith) c.through.ensures
