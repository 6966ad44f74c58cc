-- `item_values`: what a call appends, at each item.
use Rattle.std.proofs.Common.{ℕ, sym, ap, rules}
use Rattle.digits.specs.AppendsLaws.{appends_as}
use Rattle.season_answer.specs.Fields.{each, item_written}
use Rattle.season_answer.proofs.item_fields.item_values.Goals as goal

pub returns : goal.returns
returns c =
    let w = item_written c.args.texts.now c.args.state.now c.args.separator in
    appends_as (ap (λ (n : ℕ). each w 0 n) (sym c.count-n.ensures.0)) (c.each.ensures w (λ i s p r t h q. search rules))
