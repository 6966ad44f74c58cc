-- `unsigned`: no digits, a real, or an integer.
use mir.Syntax.{w64}
use mathlib.Core.Path.{refl, ap, ◌∙◌}
use Prim.Native.Nat.{ℕ}
use lib.ListN.{drop}
use borrow.Author.Tests.{le-leb, lt-leb, eq-eqb, ne_eqb}
use Rattle.paper_expressions.specs.Values as paper
use Rattle.typed_value.specs.Numerals.{decimal, signed_of}
use mir.Facts.{to_z-of_z}
use borrow.Author.Rules.{sfits_of}
use Rattle.typed_value.specs.NumeralLaws.{integer_kept}
use Rattle.typed_value.specs.Elements.{number_at}
use Rattle.typed_value.specs.ReadingLaws.{as_found}
use Rattle.typed_value.specs.declared.elements.Element.{Element}
use borrow.Author.Rules.{rules}
use Rattle.typed_value.proofs.numerals.unsigned.Goals as goal

pub returns-then-p-at : goal.returns-then-p-at
unfolding number_at
returns-then-p-at c =
    let e = ap (λ (x : Element). x.place) c.wrong.ensures in
    (search rules, λ i. rw (← c.digits-d.ensures.3, le-leb c.digits-d.result.place c.args.at c.if-p-at.true) c.wrong.ensures)

pub returns-then-byte-eq46 : goal.returns-then-byte-eq46
unfolding number_at
returns-then-byte-eq46 c =
    let a = c.args in
    let d = c.digits-d.ensures in (
      search rules,
      λ i. rw (← d.3, lt-leb c.digits-d.result.place a.at c.if-p-at.false, ← c.byte.ensures, eq-eqb c.byte.result 46 c.if-byte-eq46.true) (c.real.ensures.1 (decimal 0 (drop a.at a.s.now)) i d.2),
    )

pub returns : goal.returns
unfolding number_at
returns c =
    let a = c.args in
    let d = c.digits-d.ensures in
    let e = ap (λ (x : Element). x.place) c.found.ensures in (
      search rules,
      λ i. rw (← d.3, lt-leb c.digits-d.result.place a.at c.if-p-at.false, ← c.byte.ensures, ne_eqb c.byte.result 46 c.if-byte-eq46.false)
          (as_found (paper.integer (signed_of a.minus (decimal 0 (drop a.at a.s.now)))) i c.found.ensures
          (to_z-of_z {w = w64} (sfits_of c.signed.type_inv) ∙ c.signed.ensures ∙ ap (λ (v : ℕ). signed_of a.minus v) d.2 ∙ integer_kept a.minus (decimal 0 (drop a.at a.s.now))) refl),
    )
