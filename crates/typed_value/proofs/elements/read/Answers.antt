-- `read`: by the first byte.
use Rattle.std.proofs.Common.{◌≢◌, ℕ, arith, sym, ap, ◌∙◌, true, false, rules}
use borrow.Author.Tests.{eq-eqb, ne_eqb}
use Rattle.typed_value.specs.Elements.{number_at, text_from, element_at}
use Rattle.typed_value.specs.Readings.{element_of, text_after}
use Rattle.typed_value.specs.ReadingLaws.{number_bytes}
use Rattle.typed_value.proofs.elements.read.Goals as goal

pub returns-in-34 : goal.returns-in-34
unfolding element_at
returns-in-34 c =
    let a = c.args in
    let f = c.after.ensures in
    let h = c.inside.ensures in (
      search rules,
      rw (← c.byte.ensures, eq-eqb c.byte.result 34 c.in-34.is) (h.1 ∙ ap (λ (p : ℕ). element_of a.i (text_from a.s.now p)) f.1),
      rw (← c.byte.ensures, eq-eqb c.byte.result 34 c.in-34.is) (h.2 ∙ ap (λ (p : ℕ). text_after a.i (text_from a.s.now p) a.bytes.now) f.1),
    )

pub returns-in-45 : goal.returns-in-45
unfolding element_at
returns-in-45 c =
    let a = c.args in
    let f = c.after-in-45.ensures in
    let h = c.unsigned.ensures in
    let n : c.byte.result ≢ 34 = omega arith in (
      search rules,
      rw (← c.byte.ensures, ne_eqb c.byte.result 34 n, eq-eqb c.byte.result 45 c.in-45.is) (h.1 a.i ∙ ap (λ (p : ℕ). element_of a.i (number_at true a.s.now p)) f.1),
      rw (← c.byte.ensures, ne_eqb c.byte.result 34 n, eq-eqb c.byte.result 45 c.in-45.is) (number_bytes a.i a.bytes.now true a.s.now _),
    )

pub returns-in_default : goal.returns-in_default
unfolding element_at
returns-in_default c =
    let a = c.args in
    let h = c.unsigned-in_default.ensures in
    let n : c.byte.result ≢ 34 = omega arith in
    let m : c.byte.result ≢ 45 = omega arith in (
      search rules,
      rw (← c.byte.ensures, ne_eqb c.byte.result 34 n, ne_eqb c.byte.result 45 m, sym c.is_digit.ensures ∙ c.if-is_digit.true) (h.1 a.i),
      rw (← c.byte.ensures, ne_eqb c.byte.result 34 n, ne_eqb c.byte.result 45 m, sym c.is_digit.ensures ∙ c.if-is_digit.true) (number_bytes a.i a.bytes.now false a.s.now a.at),
    )

pub returns-in_default-2 : goal.returns-in_default-2
unfolding element_at
returns-in_default-2 c =
    let n : c.byte.result ≢ 34 = omega arith in
    let m : c.byte.result ≢ 45 = omega arith in
    rw (← c.byte.ensures, ne_eqb c.byte.result 34 n, ne_eqb c.byte.result 45 m, sym c.is_digit.ensures ∙ c.if-is_digit.false) c.other.ensures
