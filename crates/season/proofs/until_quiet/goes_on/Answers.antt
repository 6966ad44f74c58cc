-- `goes_on`: by the ending, and by whether actions are confirmed.
use Rattle.std.proofs.Common.{refl}
use Rattle.season.specs.UntilQuiet.{not_quiet, answered}
use Rattle.season.specs.UntilQuietLaws.{confirmed_as}
use Rattle.season.proofs.until_quiet.goes_on.Goals as goal

pub returns-then-ending-ne-QUIET : goal.returns-then-ending-ne-QUIET
returns-then-ending-ne-QUIET c = not_quiet c.if-ending-ne-QUIET.true

pub returns-then-answered : goal.returns-then-answered
returns-then-answered c = confirmed_as c.if-ending-ne-QUIET.false c.if-confirms.true c.answer_asked-answered.ensures c.confirm-confirmed.ensures (rw c.if-answered.true refl)

pub returns-else-answered : goal.returns-else-answered
returns-else-answered c = confirmed_as c.if-ending-ne-QUIET.false c.if-confirms.true c.answer_asked-answered.ensures c.confirm-confirmed.ensures (rw c.if-answered.false refl)

pub returns : goal.returns
returns c = answered c.if-ending-ne-QUIET.false c.if-confirms.false c.answer_asked-answered.ensures
