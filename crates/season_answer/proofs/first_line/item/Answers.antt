-- `item`: a name has room in the buffer.
use Rattle.std.proofs.Common.{List, ℕ, ap, sym, ◌∙◌, arith}
use Rattle.digits.specs.AppendsLaws.{appends_as}
use Rattle.season_answer.specs.Fields.{field_written}
use Rattle.season_answer.specs.FieldsLaws.{in_front, text_long}
use Rattle.season_answer.proofs.first_line.item.Goals as goal

pub returns : goal.returns
returns c =
    let a = c.args in
    let long = text_long a.texts.now a.h in
    let (is, k) = in_front c.name-k.ensures (omega arith) in
    let same = c.name-k.ensures.same in
    appends_as (ap (λ (w : List ℕ). field_written a.separator w) (sym (c.front.ensures (omega arith) ∙ is))) c.field.ensures
