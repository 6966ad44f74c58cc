-- `begin`: by the tests of the call, in their order.
use Rattle.std.proofs.Common.{rules, arith}
use Rattle.runs.specs.Claims.{claims_unready, claims_beyond, claims_short, claims_turned}
use Rattle.runs.proofs.begin.Goals as goal
use Rattle.runs.proofs.begin.Goals.{then-bound-via-then-bound, then-bound-via-else-bound+then-lent-lt-ROWS}

pub returns-then-not-ready : goal.returns-then-not-ready
returns-then-not-ready c =
    let a = c.args in
    claims_unready a.bound a.parts.now a.texts.now a.plan.now a.waits a.state.now a.lent c.refused.result c.ready.ensures c.refused.ensures (search rules)

pub returns-then-bound : goal.returns-then-bound
returns-then-bound c =
    let a = c.args in
    let r = c.refused-then-bound in
    elim c.then-bound.branch [
      | then-bound-via-then-bound w ↦ claims_beyond a.bound a.parts.now a.texts.now a.plan.now a.waits a.state.now a.lent r.result c.ready.ensures r.ensures (search rules) (omega arith)
      | then-bound-via-else-bound+then-lent-lt-ROWS w ↦ claims_short a.bound a.parts.now a.texts.now a.plan.now a.waits a.state.now a.lent r.result c.ready.ensures r.ensures (search rules) (omega arith)
    ]

pub returns : goal.returns
returns c =
    let a = c.args in
    claims_turned a.bound a.parts.now a.texts.now a.plan.now a.waits a.state.now a.lent a.texts.now a.state.now c.first.result (omega arith) (search rules) (omega arith) c.first.ensures
