-- `check`: the columns of the data items, and then the rows.
use Prim.Native.Nat.{ℕ}
use lib.ListN.{length-replicate}
use borrow.Author.Rules.{rules}
use Rattle.parts.specs.Part.{table}
use Rattle.types.specs.JudgedLaws.{too_long, too_many, concluded}
use Rattle.types.proofs.check.Statement.{statement}
use Rattle.types.proofs.check.Tie as tie

returns : tie.Need-returns-then-n-gt-ROWS
returns c = let a = c.before.before.before.before.args in too_long a.rows.now a.n (table a.cells.now a.bytes.now) c.if-n-gt-ROWS.true

returns-2 : tie.Need-returns-then-m-gt-LIMIT
returns-2 c = let a = c.before.before.before.before.before.before.before.before.before.before.args in too_many (table a.cells.now a.bytes.now) c.before.before.before.gather-m.ensures c.if-m-gt-LIMIT.true

returns-3 : tie.Need-returns
returns-3 c =
    let a = c.before.before.before.before.before.before.before.before.before.before.before.before.before.args in
    concluded (table a.cells.now a.bytes.now) c.judged.result c.before.before.before.before.before.before.gather-m.ensures (length-replicate {A = ℕ} 64 0) (length-replicate {A = ℕ} 64 0) c.judged.ensures

pub check_spec : {M : Type 1} → statement M
check_spec =
    tie.close
    (tie.spec
    returns
    (λ c. search rules) (λ c. search rules) (λ c κs. search rules)
    returns-2
    (λ c. search rules) (λ c. search rules) (λ c κs. search rules)
    returns-3)
