-- `number`: where no digit stands, the number is whole and its end is here.
use Rattle.std.proofs.Common.{arith, sym, ◌∙◌}
use Rattle.std.proofs.lemmas.Grind.{common_steps}
use Rattle.typed_value.specs.Lexemes.{digitb}
use Rattle.typed_value.specs.LexemeLaws.{past_end, past_stop}
use Rattle.commands.specs.ScanLaws.{digits_stop, digits_end, as_number}
use Rattle.commands.proofs.times.number.Goals as goal

pub returns-then-not-is_digit : goal.returns-then-not-is_digit
returns-then-not-is_digit c =
    let a = c.args in
    let v = c.loop-next.invariant in
    let d = sym c.is_digit.ensures ∙ c.if-not-is_digit.true in
    (v.small, as_number a.s.now a.at c.loop-next.value c.loop-next.next (v.same_number ∙ digits_stop a.s.now c.loop-next.next c.loop-next-test.true c.loop-next.value d) (v.same_end ∙ past_stop digitb a.s.now c.loop-next.next c.loop-next-test.true d))

pub returns : goal.returns
returns c =
    let a = c.args in
    let v = c.loop-next.invariant in
    (v.small, as_number a.s.now a.at c.loop-next.value c.max.result (v.same_number ∙ digits_end a.s.now c.loop-next.next c.loop-next.value c.loop-next-test.false) (grind (arith, common_steps, past_end)))
