-- `reached`: the names have room in the buffer.
use Rattle.std.proofs.Common.{List, ℕ, ap, sym, ◌∙◌, arith}
use Rattle.digits.specs.AppendsLaws.{appends_as}
use Rattle.season_answer.specs.Fields.{field_written}
use Rattle.season_answer.specs.FieldsLaws.{in_front, reached_long}
use Rattle.season_answer.proofs.tasks.reached.Goals as goal

pub returns : goal.returns
returns c =
    let a = c.args in
    let long = reached_long a.plan.now a.texts.now a.state.now 32 in
    let names = c.gather-k.ensures (omega arith) in
    let (is, k) = in_front names (omega arith) in
    let same = names.same in
    appends_as (ap (λ (w : List ℕ). field_written a.separator w) (sym (c.front.ensures (omega arith) ∙ is))) c.field.ensures
