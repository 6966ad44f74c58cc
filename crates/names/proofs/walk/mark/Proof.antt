-- `mark`: a mark that is there stays; a new one is set where the plan leads to the task.
use native.Mathlib.Omega.{arith}
use lib.ListN.{length-set}
use borrow.Author.Rules.{rules}
use borrow.Author.Tests.{not-true, not-false}
use Rattle.names.specs.Walk.{mark_not, mark_no, mark_yes}
use Rattle.names.proofs.walk.mark.Statement.{statement}
use Rattle.names.proofs.walk.mark.Tie as tie

returns : tie.Need-returns-then-marks-k
returns c =
    let a = c.before.before.before.before.before.args in
    let l = c.if-marks-k.true in
    mark_not a.rows.now a.n a.bytes.now a.tasks.now a.t a.k a.marks.now (λ u. absurd (omega arith))

returns-2 : tie.Need-returns-then-marks-k-ne-NONE
returns-2 c = let a = c.before.before.before.before.before.before.before.args in mark_not a.rows.now a.n a.bytes.now a.tasks.now a.t a.k a.marks.now (λ u. c.if-marks-k-ne-NONE.true)

returns-3 : tie.Need-returns-then-not-follows
returns-3 c = let a = c.before.before.before.before.before.before.before.before.before.args in mark_no a.rows.now a.n a.bytes.now a.tasks.now a.t a.k a.marks.now c.before.follows.ensures (not-true _ c.if-not-follows.true-raw)

same_length : tie.Need-shape_of-marks
same_length c = simp length-set

returns-4 : tie.Need-returns
returns-4 c =
    let a = c.before.before.before.before.before.before.before.before.before.args in
    mark_yes a.rows.now a.n a.bytes.now a.tasks.now a.t a.k a.marks.now (let l = c.before.before.before.before.if-marks-k.false in omega arith) c.before.before.if-marks-k-ne-NONE.false c.before.follows.ensures (not-false _ c.if-not-follows.false-raw)

pub mark_spec : {M : Type 1} → statement M
mark_spec =
    tie.close
    (tie.spec
    returns
    (λ c. search rules)
    returns-2
    (λ c κs. search rules)
    returns-3
    (λ c. search rules)
    same_length
    returns-4)
