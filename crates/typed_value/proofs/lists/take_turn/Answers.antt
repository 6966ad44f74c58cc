-- `take_turn`: what stands behind the element, or what is wrong with it.
use mathlib.Core.Path.{sym, ap, ◌∙◌}
use Rattle.typed_value.specs.Elements.{element_at}
use Rattle.typed_value.specs.ReadingLaws.{told_element, turn_fine, turn_wrong}
use Rattle.typed_value.specs.declared.lists.Turn.{Turn}
use borrow.Author.Rules.{rules}
use Rattle.typed_value.proofs.lists.take_turn.Goals as goal

pub returns-then-is_fine : goal.returns-then-is_fine
returns-then-is_fine c =
    let a = c.args in
    let h = c.put_element-t.ensures in
    (search rules, c.behind.ensures.1 ∙ turn_fine a.s.now (told_element a.s.now a.at) h.1 (sym c.is_fine.ensures ∙ c.if-is_fine.true), h.2)

pub returns-else-is_fine : goal.returns-else-is_fine
returns-else-is_fine c =
    let a = c.args in
    let e = ap (λ (x : Turn). x.place) c.turned.ensures in
    let h = c.put_element-t.ensures in
    (search rules, c.turned.ensures ∙ turn_wrong a.s.now (element_at a.s.now a.at) h.1 (sym c.is_fine.ensures ∙ c.if-is_fine.false), h.2)
