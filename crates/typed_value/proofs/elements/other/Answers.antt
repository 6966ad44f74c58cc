-- `other`: a word, or nothing that begins an element.
use Rattle.std.proofs.Common.{refl, sym, ap, ◌∙◌, rules}
use Rattle.typed_value.specs.Elements.{other_at}
use Rattle.typed_value.specs.declared.elements.Element.{Element}
use Rattle.typed_value.proofs.elements.other.Goals as goal

pub returns-then-is_letter : goal.returns-then-is_letter
unfolding other_at
returns-then-is_letter c = rw (← c.byte-b.ensures, sym c.is_letter.ensures ∙ c.if-is_letter.true) c.word.ensures

pub returns-else-is_letter : goal.returns-else-is_letter
unfolding other_at
returns-else-is_letter c =
    let e = ap (λ (x : Element). x.place) c.wrong.ensures in
    (search rules, rw (← c.byte-b.ensures, sym c.is_letter.ensures ∙ c.if-is_letter.false, ← c.slip_of.ensures) c.wrong.ensures, rw (← c.byte-b.ensures, sym c.is_letter.ensures ∙ c.if-is_letter.false) refl)
