-- `run`: by the test on the rows that are lent.
use Rattle.std.proofs.Common.{refl, arith}
use Rattle.replay.specs.Calls.{too_many, runs}
use Rattle.replay.proofs.calls.run.Goals as goal

pub returns-then-lent-gt-ROWS_LENT : goal.returns-then-lent-gt-ROWS_LENT
returns-then-lent-gt-ROWS_LENT c = too_many (omega arith) refl refl refl

pub returns : goal.returns
returns c = runs (omega arith) c.run_alone.ensures
