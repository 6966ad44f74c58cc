-- `read`: by its cases.
use Rattle.std.proofs.Common.{rules, arith}
use Rattle.row_read.specs.Read.{read_refused, read_row_of, read_none}
use Rattle.row_read.proofs.read.Goals as goal

pub returns-then-not-readable : goal.returns-then-not-readable
returns-then-not-readable c = let a = c.args in read_refused a.kind a.number a.property a.plan.now a.waits a.state.now c.plain.result c.readable.ensures (search rules) c.plain.ensures

pub returns-then-property-ge-NUMBER : goal.returns-then-property-ge-NUMBER
returns-then-property-ge-NUMBER c =
    let a = c.args in
    read_none a.kind a.number a.property a.plan.now a.waits a.state.now c.plain-then-property-ge-NUMBER.result c.readable.ensures (search rules) (λ l. omega arith) c.plain-then-property-ge-NUMBER.ensures

pub returns : goal.returns
returns c =
    let a = c.args in
    read_row_of a.kind a.number a.property a.plan.now a.waits a.state.now c.of_kind.result c.readable.ensures (search rules) (omega arith) c.of_kind.ensures
