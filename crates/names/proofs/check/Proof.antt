-- `check`: the lists, the marks, and then the flaws and the tasks that have no mark.
use Prim.Native.Nat.{ℕ}
use lib.ListN.{length-replicate}
use borrow.Author.Rules.{rules}
use Rattle.names.proofs.VerdictLaws.{too_long, too_many_tasks, too_many_items, concluded, blank_all}
use Rattle.names.proofs.check.Statement.{statement}
use Rattle.names.proofs.check.Tie as tie

returns : tie.Need-returns-then-n-gt-ROWS
returns c = let a = c.before.before.before.args in too_long a.rows.now a.n a.bytes.now c.if-n-gt-ROWS.true

returns-2 : tie.Need-returns-then-m-gt-LIMIT
returns-2 c = too_many_tasks c.before.before.before.before.before.before.before.args.bytes.now c.before.before.gather-m.ensures c.if-m-gt-LIMIT.true

returns-3 : tie.Need-returns-then-d-gt-LIMIT
returns-3 c = too_many_items c.before.before.before.before.before.before.before.before.before.before.before.args.bytes.now c.before.before.gather-d.ensures c.if-d-gt-LIMIT.true

returns-4 : tie.Need-returns
returns-4 c =
    concluded c.before.before.before.before.before.before.before.before.before.before.before.before.before.before.before.before.before.before.before.before.before.args.bytes.now c.before.before.before.flaws-best.result c.unreached.result
    c.before.before.before.before.before.before.before.before.before.before.before.before.before.before.before.before.gather-m.ensures (length-replicate {A = ℕ} 32 0) c.before.before.before.before.before.before.before.before.before.before.before.before.before.before.if-m-gt-LIMIT.false c.before.before.before.before.before.before.before.before.before.before.before.before.gather-d.ensures (length-replicate {A = ℕ} 64 0) c.before.before.before.before.before.before.before.before.before.before.if-d-gt-LIMIT.false
    c.before.before.before.before.before.before.before.reach.ensures (length-replicate {A = ℕ} 32 0) (blank_all 32) c.before.before.before.flaws-best.ensures c.unreached.ensures

pub check_spec : {M : Type 1} → statement M
check_spec =
    tie.close
    (tie.spec
    returns
    (λ c. search rules) (λ c κs. search rules)
    returns-2
    (λ c. search rules) (λ c κs. search rules)
    returns-3
    (λ c. search rules) (λ c. search rules) (λ c κs. search rules) (λ c. search rules) (λ c. search rules) (λ c κs. search rules)
    (λ c. search rules) (λ c. search rules) (λ c κs. search rules)
    returns-4)
