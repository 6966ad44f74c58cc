-- `value`: an empty text, or a value that has room in the buffer.
use Rattle.std.proofs.Common.{List, ℕ, ap, sym, ◌∙◌, arith}
use Rattle.values.specs.Meaning.{meaning_v}
use Rattle.digits.specs.AppendsLaws.{appends_as}
use Rattle.season_answer.specs.Fields.{field_written}
use Rattle.season_answer.specs.FieldsLaws.{in_front}
use Rattle.season_answer.specs.ValuesLaws.{field_empty, field_full}
use Rattle.season_answer.proofs.item_fields.value.Goals as goal

pub returns-then-is_empty_text : goal.returns-then-is_empty_text
returns-then-is_empty_text c =
    let a = c.args in
    λ h. field_empty a.separator (meaning_v a.texts.now a.v) (sym (c.is_empty_text.ensures a.texts.now) ∙ c.if-is_empty_text.true) c.empty_text.ensures

pub returns : goal.returns
returns c =
    let a = c.args in
    let w = c.value-k.ensures in
    let same = w.same in
    λ h. (
    let (is, k) = in_front w (omega arith) in
    field_full a.separator (meaning_v a.texts.now a.v) (sym (c.is_empty_text.ensures a.texts.now) ∙ c.if-is_empty_text.false)
    (appends_as (ap (λ (u : List ℕ). field_written a.separator u) (sym (c.front.ensures (omega arith) ∙ is))) c.field.ensures)
    )
