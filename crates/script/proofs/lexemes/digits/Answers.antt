-- `digits`: a byte that is no digit, one more digit, and the end of the text.
use Rattle.std.proofs.Common.{rules, arith, ◌≡◌, ◌+◌, sym, ◌∙◌, drop}
use Rattle.script.specs.Lexemes.{digits_long}
use Rattle.script.specs.LexemesLaws.{digits_past, digits_end, digits_more, ended_as}
use Rattle.script.proofs.lexemes.digits.Goals as goal

pub returns-then-not-is_digit : goal.returns-then-not-is_digit
returns-then-not-is_digit c =
    let a = c.args in
    let l = c.loop-p in
    let e = digits_end a.s.now l.p (omega arith) c.is_digit.ensures (search rules) l.n in
    let place : l.p ≡ a.at + digits_long (drop a.at a.s.now) = omega (arith, l.invariant.place, e.1) in
    ended_as a.at c.ended.ensures (sym e.0 ∙ l.invariant.value) place

pub loop-p-preserved : goal.loop-p-preserved
loop-p-preserved c =
    let a = c.args in
    let l = c.loop-p in
    let e = digits_more a.s.now l.p (omega arith) c.is_digit.ensures (search rules) l.n c.with_digit-n.ensures in
    record { value = sym e.0 ∙ l.invariant.value; place = omega (arith, l.invariant.place, e.1); far = omega arith }

pub returns : goal.returns
returns c =
    let a = c.args in
    let l = c.loop-p in
    let e = digits_past a.s.now l.p (omega arith) l.n in
    let place : c.max.result ≡ a.at + digits_long (drop a.at a.s.now) = omega (arith, l.invariant.place, e.1) in
    ended_as a.at c.ended-2.ensures (sym e.0 ∙ l.invariant.value) place
