-- `output::write_line` meets its contract: the bytes one behind the other.
use Rattle.std.proofs.Common.{refl, sym, rules}
use Rattle.digits.specs.AppendsLaws.{appends_as}
use Rattle.sheet.specs.StepsLaws.{reply_as, line_is}
use Rattle.sheet.proofs.output.write_line.Goals as goal

pub returns : goal.returns
returns c =
    line_is (reply_as (sym c.first.ensures) c.answer-len.ensures) refl (search rules) c.number-a.ensures c.byte-b.ensures
    (appends_as (sym c.first-2.ensures) c.word-c.ensures) c.byte.ensures c.requires
