-- `leaf`: each arm is a rule.
use Rattle.std.proofs.Common.{sym, ap, arith, ℕ}
use Rattle.typer.specs.Leaves.{leaf_of}
use Rattle.typer.proofs.LeavesLaws.{leaf_typed}
use Rattle.typer.proofs.leaves.leaf.Goals as goal

pub returns-in-2 : goal.returns-in-2
returns-in-2 c =
    let a = c.args in
    leaf_typed a.bytes.now a.names.now a.types.now a.task a.kind a.load 0 73 (λ e. absurd (omega (arith, c.in-2.is))) (ap (λ (k : ℕ). leaf_of k 0) (sym c.in-2.is))

pub returns-in-3 : goal.returns-in-3
returns-in-3 c =
    let a = c.args in
    leaf_typed a.bytes.now a.names.now a.types.now a.task a.kind a.load 0 82 (λ e. absurd (omega (arith, c.in-3.is))) (ap (λ (k : ℕ). leaf_of k 0) (sym c.in-3.is))

pub returns-in-4 : goal.returns-in-4
returns-in-4 c =
    let a = c.args in
    leaf_typed a.bytes.now a.names.now a.types.now a.task a.kind a.load 0 84 (λ e. absurd (omega (arith, c.in-4.is))) (ap (λ (k : ℕ). leaf_of k 0) (sym c.in-4.is))
