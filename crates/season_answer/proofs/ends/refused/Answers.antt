-- `refused`: a refusal has room in the buffer.
use Rattle.std.proofs.Common.{List, ℕ, ap, sym, ◌∙◌, arith}
use Rattle.digits.specs.AppendsLaws.{append_then, appends_as}
use Rattle.season_answer.specs.Fields.{last_written}
use Rattle.season_answer.specs.FieldsLaws.{in_front, refusal_long}
use Rattle.season_answer.proofs.ends.refused.Goals as goal

pub returns : goal.returns
returns c =
    let a = c.args in
    let long = refusal_long a.number a.texts.now a.h in
    let (is, k) = in_front c.refusal-k.ensures (omega arith) in
    let same = c.refusal-k.ensures.same in
    append_then (append_then c.nothing-p.ensures c.nothing-q.ensures) (appends_as (ap (λ (w : List ℕ). last_written a.separator w) (sym (c.front.ensures (omega arith) ∙ is))) c.last.ensures)
