-- `refusal`: one piece behind the other.
use Rattle.std.proofs.Common.{◌≡◌, ℕ, ap, arith}
use Rattle.paper_guideline.specs.Line.{digits_of}
use Rattle.digits.specs.AppendsLaws.{append_then, appends_as}
use Rattle.season_answer.proofs.ends.refusal.Goals as goal

pub returns : goal.returns
returns c =
    let e : c.args.number ≡ c.from.result = omega arith in
    append_then (append_then (append_then c.word-p.ensures (appends_as (ap (λ (n : ℕ). digits_of n) e) c.number-q.ensures)) c.word-r.ensures) c.name.ensures
