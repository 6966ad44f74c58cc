-- `inside`: never closed, or a text.
use mir.Syntax.{w64}
use mir.Facts.{to_z-of_z}
use borrow.Author.Rules.{sfits_of}
use mathlib.Core.Path.{refl, sym, ap, ◌∙◌}
use Prim.Native.Nat.{ℕ, ◌+◌, ◌*◌, ◌-◌}
use lib.IntN.{pos}
use borrow.Author.Tests.{eq-eqb, ne_eqb}
use Rattle.paper_expressions.specs.Values as paper
use Rattle.parts.specs.Texts.{cells}
use Rattle.blocks.specs.Blocks.{cells_long}
use Rattle.typed_value.specs.Texts.{kept_of_fn}
use Rattle.typed_value.specs.Elements.{text_from}
use Rattle.typed_value.specs.ReadingLaws.{as_found}
use Rattle.typed_value.specs.declared.elements.Element.{Element}
use borrow.Author.Rules.{rules}
use Rattle.typed_value.proofs.texts.inside.Goals as goal

pub returns-then-byte-ne-QUOTE : goal.returns-then-byte-ne-QUOTE
unfolding text_from
returns-then-byte-ne-QUOTE c =
    let e = ap (λ (x : Element). x.place) c.wrong.ensures in (
      search rules,
      rw (← c.close-p.ensures.1, ← c.byte.ensures, ne_eqb c.byte.result 34 c.if-byte-ne-QUOTE.true) c.wrong.ensures,
      rw (← c.close-p.ensures.1, ← c.byte.ensures, ne_eqb c.byte.result 34 c.if-byte-ne-QUOTE.true) refl,
    )

pub returns : goal.returns
unfolding text_from
returns c =
    let a = c.args in
    let e = ap (λ (x : Element). x.place) c.found.ensures in
    let n = c.close-p.result - a.from in (
      search rules,
      rw (← c.close-p.ensures.1, ← c.byte.ensures, eq-eqb c.byte.result 34 c.if-byte-ne-QUOTE.false)
          (as_found (paper.text (cells a.s.now a.from (kept_of_fn n))) a.i c.found.ensures (to_z-of_z {w = w64} (sfits_of c.copy.type_inv) ∙ c.copy.ensures.0 ∙ ap (λ (m : ℕ). pos (64 * a.i * 64 + m)) (sym (cells_long a.s.now a.from (kept_of_fn n)))) c.after.ensures.1),
      rw (← c.close-p.ensures.1, ← c.byte.ensures, eq-eqb c.byte.result 34 c.if-byte-ne-QUOTE.false) c.copy.ensures.1,
    )
