-- `attribute`: one that stands once, and stands again.
use borrow.Author.Rules.{rules}
use Rattle.name_tests.specs.Flaws.{attribute_not, attribute_again_is}
use Rattle.name_tests.proofs.flaws.attribute.Statement.{statement}
use Rattle.name_tests.proofs.flaws.attribute.Tie as tie

returns : tie.Need-returns-then-once
returns c = λ n b. attribute_again_is c.before.before.before.before.before.args.rows.now n b c.before.before.before.kind.ensures c.before.before.once.ensures c.before.if-once.true c.again.ensures

returns-2 : tie.Need-returns
returns-2 c = λ n b. attribute_not c.before.before.before.before.args.rows.now n b c.before.before.kind.ensures c.before.once.ensures c.if-once.false

pub attribute_spec : {M : Type 1} → statement M
attribute_spec = tie.close (tie.spec (λ c κs. search rules) (λ c κs. search rules) (λ c κs. search rules) returns returns-2)
