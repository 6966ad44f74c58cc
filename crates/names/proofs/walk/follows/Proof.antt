-- `follows`: a component of the task's name, among the rows of the plan.
use mathlib.Core.Path.{ap, ◌∙◌}
use Prim.Native.Nat.{ℕ}
use native.Mathlib.Omega.{arith}
use lib.ListN.{get_or}
use borrow.Author.Rules.{rules}
use Rattle.row_tests.specs.Table.{cell_of}
use Rattle.names.specs.Walk as Walk
use Rattle.names.proofs.walk.follows.Statement.{statement}
use Rattle.names.proofs.walk.follows.Tie as tie

returns : tie.Need-returns-then-n-t
returns c = λ u. absurd (let l = c.if-n-t.true in omega arith)

returns-2 : tie.Need-returns
returns-2 c =
    let a = c.before.before.before.before.before.before.before.before.args in
    Walk.follows a.rows.now a.n a.bytes.now a.t (get_or a.tasks.now a.k 0) (c.before.before.handle-h.ensures ∙ ap (λ (i : ℕ). cell_of a.rows.now i 2) c.before.before.before.number.ensures) c.before.finish-z.ensures c.named.ensures

pub follows_spec : {M : Type 1} → statement M
follows_spec = tie.close (tie.spec returns (λ c κs. search rules) (λ c κs. search rules) (λ c κs. search rules) (λ c. search rules) (λ c κs. search rules) returns-2)
