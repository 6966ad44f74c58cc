-- `digits`: where no digit stands, the number is whole and its end is here.
use Rattle.std.proofs.Common.{drop, arith, sym, ◌∙◌}
use Rattle.std.proofs.lemmas.Grind.{common_steps}
use Rattle.typed_value.specs.Lexemes.{digitb}
use Rattle.typed_value.specs.LexemeLaws.{past_end, past_stop}
use Rattle.typed_value.specs.NumeralLaws.{counted_kept, counted_end, counted_stop}
use Rattle.typed_value.proofs.numerals.digits.Goals as goal

pub returns-then-not-is_digit : goal.returns-then-not-is_digit
returns-then-not-is_digit c =
    let d = sym c.is_digit.ensures ∙ c.if-not-is_digit.true in
    let v = c.loop-place.invariant in (
      (omega arith, omega arith),
      v.small,
      sym (sym (counted_kept 0 (drop c.args.at c.args.s.now)) ∙ v.same_number ∙ counted_stop c.args.s.now c.loop-place.place c.loop-place.value c.loop-place-test.true d),
      sym (v.same_end ∙ past_stop digitb c.args.s.now c.loop-place.place c.loop-place-test.true d),
    )

pub returns : goal.returns
returns c =
    let v = c.loop-place.invariant in (
      (omega arith, omega arith),
      v.small,
      sym (sym (counted_kept 0 (drop c.args.at c.args.s.now)) ∙ v.same_number ∙ counted_end c.args.s.now c.loop-place.place c.loop-place.value c.loop-place-test.false),
      grind (arith, common_steps, past_end),
    )
