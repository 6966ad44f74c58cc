-- `answer`: the command is the line's.
use Rattle.advise.specs.AnswerLaws.{answered_as}
use borrow.Author.Rules.{rules}
use Rattle.advise.proofs.answer.answer.Statement.{statement}
use Rattle.advise.proofs.answer.answer.Tie as tie

returns : tie.Need-returns
returns c = answered_as c.before.before.before.before.before.before.before.before.read-c.ensures c.before.before.before.before.before.obey.ensures c.is_quit.ensures

pub answer_spec : {M : Type 1} → statement M
answer_spec = tie.close (tie.spec (λ c κs. search rules) (λ c κs. search rules) (λ c κs. search rules) (λ c. search rules) (λ c. search rules) returns)
