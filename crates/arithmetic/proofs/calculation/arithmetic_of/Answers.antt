-- `arithmetic_of`: an integer times a real needs no cut; the other arms compute.
use Rattle.std.proofs.Common.{sym, ap, ap₂, ◌∙◌}
use Rattle.values.specs.Meaning.{real_of_fn}
use Rattle.arithmetic.specs.Twins.{arith_c}
use Rattle.arithmetic.proofs.Numbers.{made, left_is, right_is}
use Rattle.arithmetic.proofs.calculation.arithmetic_of.Goals as goal

pub returns-in-Int-Real : goal.returns-in-Int-Real
returns-in-Int-Real c =
    let o = c.args.o in
    let w = c.in-Int-Real in
    c.real.ensures
    ∙ ap real_of_fn (made o c.combine-in-Int-Real.ensures c.thousandths.ensures.0 c.from-in-Int-Real.ensures.0 c.product-in-Int-Real.ensures.0 ∙ left_is o w.x.z w.y.z)
    ∙ sym (ap₂ (arith_c o) w.is-0 w.is-1)

pub returns-in-Real-Int : goal.returns-in-Real-Int
returns-in-Real-Int c =
    let o = c.args.o in
    let w = c.in-Real-Int in
    c.real-in-Real-Int.ensures
    ∙ ap real_of_fn (made o c.combine-in-Real-Int.ensures c.from-in-Real-Int.ensures.0 c.thousandths-in-Real-Int.ensures.0 c.product-in-Real-Int.ensures.0 ∙ right_is o w.x.z w.y.z)
    ∙ sym (ap₂ (arith_c o) w.is-0 w.is-1)
