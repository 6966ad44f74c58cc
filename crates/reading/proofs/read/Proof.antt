-- `read`: blank tables, and what is read into them.
use Rattle.reading.specs.Laws.{relent}
use borrow.Author.Rules.{rules}
use Rattle.reading.proofs.read.Statement.{statement}
use Rattle.reading.proofs.read.Tie as tie

returns : tie.Need-returns
returns c = relent c.before.before.before.before.before.before.before.before.before.before.before.before.before.before.before.before.blank.ensures c.before.before.before.before.before.before.lexed.ensures

pub read_spec : {M : Type 1} → statement M
read_spec =
    tie.close
    (tie.spec
    (λ c κs. search rules) (λ c κs. search rules) (λ c. search rules) (λ c. search rules) (λ c. search rules)
    returns)
