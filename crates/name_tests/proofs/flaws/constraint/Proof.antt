-- `constraint`: its own component, and then those of its plan.
use mathlib.Core.Path.{sym, ◌∙◌}
use native.Mathlib.Omega.{arith}
use borrow.Author.Rules.{rules}
use Rattle.name_tests.specs.Flaws.{constraint_itself, constraint_none, constraint_else}
use Rattle.name_tests.proofs.flaws.constraint.Statement.{statement}
use Rattle.name_tests.proofs.flaws.constraint.Tie as tie

returns : tie.Need-returns-then-j-c
returns c =
    let a = c.before.before.before.before.before.before.args in
    let l = c.before.if-j-c.true in
    constraint_none a.rows.now a.n a.bytes.now a.j c.before.before.before.handle-h.ensures c.before.before.owner-c.ensures (λ u. omega arith) c.unnamed.ensures

returns-2 : tie.Need-returns-then-same
returns-2 c =
    let a = c.before.before.before.before.before.before.before.before.args in
    constraint_itself a.rows.now a.n a.bytes.now a.j c.before.before.before.before.before.handle-h.ensures c.before.before.before.before.owner-c.ensures (let l = c.before.before.before.if-j-c.false in omega arith) c.before.before.handle.ensures (sym c.before.same.ensures ∙ c.if-same.true)

returns-3 : tie.Need-returns
returns-3 c =
    let a = c.before.before.before.before.before.before.before.before.before.args in
    constraint_else a.rows.now a.n a.bytes.now a.j c.before.before.before.before.before.before.handle-h.ensures c.before.before.before.before.before.owner-c.ensures (let l = c.before.before.before.before.if-j-c.false in omega arith) c.before.before.before.handle.ensures (sym c.before.before.same.ensures ∙ c.before.if-same.false) c.unnamed-2.ensures

pub constraint_spec : {M : Type 1} → statement M
constraint_spec =
    tie.close
    (tie.spec
    (λ c κs. search rules) (λ c κs. search rules) (λ c κs. search rules)
    returns
    (λ c κs. search rules) (λ c κs. search rules)
    returns-2
    (λ c κs. search rules)
    returns-3)
