-- Each goal is a step of the walk, from the last operand to the first, or of the expression by its root.
use Rattle.std.proofs.Common.{ℕ, ◌≡◌, ◌-◌, ◌+◌, subst, arith}
use Rattle.parts.specs.Part.{table}
use Rattle.typer.proofs.TypedLaws.{Going, going_first, going_on, going_stop, going_done, nothing_ends, too_deep, by_operands}
use Rattle.typer.proofs.+operands_type_of.Goals as goal
use Rattle.typer.proofs.+operands_type_of.Goals.{type_of-then-end-eq0-via-then-end-eq0, type_of-then-end-eq0-via-else-end-eq0+then-depth-eq0}

pub operands-loop-init : goal.operands-loop-init
operands-loop-init t c =
    let a = c.args in
    let e : a.n ≡ a.n - 0 = omega arith in
    subst (λ (k : ℕ). Going (table a.cells.now a.bytes.now) a.names.now a.types.now a.task a.p a.n a.depth k a.p c.start-s.result) e
    (going_first _ _ _ _ _ _ _ _ c.start-s.ensures)

pub operands-returns-then-t-eq0 : goal.operands-returns-then-t-eq0
operands-returns-then-t-eq0 t c =
    going_stop _ _ _ _ _ _ _ (c.args.n - c.loop.counter) _ _ _ (omega arith) c.if-t-eq0.true c.loop.invariant c.type_of-t.ensures

pub operands-loop-preserved : goal.operands-loop-preserved
operands-loop-preserved t c =
    let a = c.args in
    let l = c.loop in
    let e : a.n - l.counter - 1 ≡ a.n - (l.counter + 1) = omega arith in
    subst (λ (k : ℕ). Going (table a.cells.now a.bytes.now) a.names.now a.types.now a.task a.p a.n a.depth k c.back-q.result c.push-s.result) e
    (going_on _ _ _ _ _ _ _ _ _ _ _ _ _ (omega arith) c.if-t-eq0.false l.invariant c.type_of-t.ensures c.push-s.ensures c.back-q.ensures)

pub operands-returns : goal.operands-returns
operands-returns t c = going_done _ _ _ _ _ _ _ (c.args.n - c.loop.counter) _ _ (omega arith) c.loop.invariant

pub type_of-returns-then-end-eq0 : goal.type_of-returns-then-end-eq0
type_of-returns-then-end-eq0 t c =
    elim c.then-end-eq0.branch [
      | type_of-then-end-eq0-via-then-end-eq0 w ↦ nothing_ends _ _ _ _ _ _ _ w.if-end-eq0.true
      | type_of-then-end-eq0-via-else-end-eq0+then-depth-eq0 w ↦ too_deep _ _ _ _ _ _ _ w.if-depth-eq0.true
    ]

pub type_of-returns : goal.type_of-returns
type_of-returns t c =
    by_operands _ _ _ _ _ _ _ _ _ _ c.code-kind.ensures (λ h. absurd (omega (arith, h, c.if-kind-lt-LIST.false))) c.count-n.ensures c.operands-s.ensures c.compound.ensures
