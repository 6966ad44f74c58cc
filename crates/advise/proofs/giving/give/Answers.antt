-- `give`: the first data item with the name is given what was read, or something was wrong.
use Rattle.std.proofs.Common.{arith}
use Rattle.advise.specs.CallsToldLaws.{given_as, unread_as}
use Rattle.advise.proofs.giving.give.Goals as goal

pub returns-in-Value : goal.returns-in-Value
returns-in-Value c =
    let a = c.args in
    let h = c.in-Some.ensures in
    let l = h.0 in
    record { item = c.in-Some.d; named = h.1; none = λ q. absurd (omega arith); given = λ q. given_as c.in-Some.d a.texts.now a.plan.now a.state.now c.read.ensures.1 _ _ c.in-Value.is c.add.ensures }

pub returns-in-Wrong : goal.returns-in-Wrong
returns-in-Wrong c =
    let a = c.args in
    let h = c.in-Some.ensures in
    let l = h.0 in
    record { item = c.in-Some.d; named = h.1; none = λ q. absurd (omega arith); given = λ q. unread_as c.in-Some.d a.texts.now a.plan.now a.state.now c.read.ensures.1 c.in-Wrong.is }
