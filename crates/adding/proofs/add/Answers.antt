-- `add`: by its cases.
use Rattle.std.proofs.Common.{rules, arith}
use Rattle.adding.specs.Add.{add_unready, add_none, add_mistyped, add_large, add_stored}
use Rattle.adding.proofs.add.Goals as goal
use Rattle.adding.proofs.add.Goals.{then-item-n-via-then-item-n, then-item-n-via-else-item-n+then-item}

pub returns-then-not-ready : goal.returns-then-not-ready
returns-then-not-ready c = let a = c.args in add_unready a.item a.tags.now a.numbers.now a.bytes.now a.texts.now a.plan.now a.state.now c.ready.ensures (search rules)

pub returns-then-item-n : goal.returns-then-item-n
returns-then-item-n c =
    let a = c.args in
    let none = add_none a.item a.tags.now a.numbers.now a.bytes.now a.texts.now a.plan.now a.state.now c.ready.ensures (search rules) c.cell.ensures in
    elim c.then-item-n.branch [ then-item-n-via-then-item-n w ↦ none (λ z. (let l = z.0 in omega arith)) | then-item-n-via-else-item-n+then-item w ↦ none (λ z. (let l = z.1 in omega arith)) ]

pub returns-then-not-typed : goal.returns-then-not-typed
returns-then-not-typed c =
    let a = c.args in
    add_mistyped a.item a.tags.now a.numbers.now a.bytes.now a.texts.now a.plan.now a.state.now c.ready.ensures (search rules) c.cell.ensures (omega arith) (omega arith) c.cell-k.ensures c.typed.ensures (search rules)

pub returns-then-not-within : goal.returns-then-not-within
returns-then-not-within c =
    let a = c.args in
    add_large a.item a.tags.now a.numbers.now a.bytes.now a.texts.now a.plan.now a.state.now c.ready.ensures (search rules) c.cell.ensures (omega arith) (omega arith) c.cell-k.ensures c.typed.ensures (search rules) c.within.ensures (search rules)

pub returns : goal.returns
returns c =
    let a = c.args in
    add_stored a.item a.tags.now a.numbers.now a.bytes.now a.texts.now a.plan.now a.state.now c.ready.ensures (search rules) c.cell.ensures (omega arith) (omega arith) c.cell-k.ensures c.typed.ensures (search rules) c.within.ensures (search rules) c.value.ensures c.store.ensures
