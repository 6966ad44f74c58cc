-- `item`: the value that its cells show.
use Rattle.std.proofs.Common.{◌≤◌, length, subst, sym}
use Rattle.paper_expressions.specs.Values as paper
use Rattle.paper_guideline.specs.Line.{value_written}
use Rattle.season_answer.specs.ValuesLaws.{value_long, item_there}
use Rattle.season_answer.proofs.item_fields.item.Goals as goal

pub returns-then-has_value : goal.returns-then-has_value
returns-then-has_value c =
    let a = c.args in
    let shows = c.value_of.ensures a.texts.now in
    item_there a.separator a.texts.now a.state.now a.d c.has_value.ensures c.if-has_value.true shows
    (c.value.ensures (subst (λ (v : paper.Value). length (value_written v) ≤ 1040) (sym shows) (value_long a.texts.now a.state.now a.d)))
