-- `text`: the word unknown, or the field as it stands.
use mathlib.Core.Path.{sym, ◌∙◌}
use Rattle.field_values.specs.Reading.{field_value}
use Rattle.field_values.specs.ReadingLaws.{unknown_bytes}
use Rattle.field_values.proofs.text.Goals as goal

pub returns-then-is_word : goal.returns-then-is_word
returns-then-is_word c = rw (sym c.is_word.ensures ∙ c.if-is_word.true) (field_value c.put_unknown.ensures.0 c.put_unknown.ensures.1 (unknown_bytes c.args.bytes.now))

pub returns-else-is_word : goal.returns-else-is_word
returns-else-is_word c = rw (sym c.is_word.ensures ∙ c.if-is_word.false) (field_value c.put_text.ensures.0 c.put_text.ensures.1 c.put_text.ensures.2)
