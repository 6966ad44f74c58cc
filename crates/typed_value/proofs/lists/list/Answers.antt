-- `list`: it is empty, or has elements.
use mathlib.Core.Path.{ap, ◌∙◌}
use Prim.Native.Nat.{ℕ}
use borrow.Author.Tests.{eq-eqb, ne_eqb}
use Rattle.typed_value.specs.Lexemes.{after_of}
use Rattle.typed_value.specs.ReadingLaws.{list_value, no_elements}
use Rattle.typed_value.specs.declared.steps.Step.{Step}
use Rattle.typed_value.specs.declared.steps.Slip.TheVariants.{Fine}
use borrow.Author.Rules.{rules}
use Rattle.typed_value.proofs.lists.list.Goals as goal

pub returns-then-byte-eq93 : goal.returns-then-byte-eq93
returns-then-byte-eq93 c =
    let a = c.args in
    let e = ap (λ (x : Step). x.place) c.reached.ensures in (
      search rules,
      rw (← c.byte.ensures, eq-eqb c.byte.result 93 c.if-byte-eq93.true)
          (no_elements a.tags.now a.numbers.now a.bytes.now (after_of a.s.now a.at) (c.reached.ensures ∙ ap {B = Step} (λ (p : ℕ). record { place = p; slip = Fine }) c.after.ensures.1) c.put_shape.ensures),
    )

pub returns : goal.returns
returns c = (c.elements_of.ensures.0, rw (← c.byte.ensures, ne_eqb c.byte.result 93 c.if-byte-eq93.false) (list_value c.elements_of.ensures.1))
