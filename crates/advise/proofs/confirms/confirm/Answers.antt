-- `confirm`: no task has the name, or the first that has it is confirmed.
use Rattle.std.proofs.Common.{refl, get_or, arith}
use Rattle.advise.proofs.confirms.confirm.Goals as goal

pub returns-in_default : goal.returns-in_default
returns-in_default c = record { task = get_or c.args.plan.now 0 0; named = c.in_default.ensures; none = λ q. refl; reply = λ q. absurd (omega arith); call = λ q. absurd (omega arith) }

pub returns-in-Done : goal.returns-in-Done
returns-in-Done c =
    let h = c.in-Some.ensures in
    let l = h.0 in
    record { task = c.in-Some.t; named = h.1; none = λ q. absurd (omega arith); reply = λ q. c.confirm.result; call = λ q. c.confirm.ensures }

pub returns-in-Refused : goal.returns-in-Refused
returns-in-Refused c =
    let h = c.in-Some.ensures in
    let l = h.0 in
    record { task = c.in-Some.t; named = h.1; none = λ q. absurd (omega arith); reply = λ q. c.confirm.result; call = λ q. c.confirm.ensures }
