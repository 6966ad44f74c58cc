-- `blanks`: what a call appends, at each item.
use Rattle.std.proofs.Common.{ℕ, sym, ap, rules}
use Rattle.digits.specs.AppendsLaws.{appends_as}
use Rattle.season_answer.specs.Fields.{blanks_written, nothing_written}
use Rattle.season_answer.proofs.item_fields.blanks.Goals as goal

pub returns : goal.returns
returns c =
    appends_as (ap (λ (n : ℕ). blanks_written n c.args.separator) (sym c.count-n.ensures.0)) (c.each.ensures (λ (d : ℕ). nothing_written c.args.separator) (λ i s p r t h q. search rules))
