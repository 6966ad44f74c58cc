-- `lexed`: by the reply of the tokens.
use Rattle.reading.specs.Laws.{structured, turning, going}
use Rattle.reading.proofs.lexed.Goals as goal

pub returns-in-Refused : goal.returns-in-Refused
returns-in-Refused c = turning c.args.text.now c.into_blank.new.kinds c.into_blank.new.places c.into_blank.new.lengths c.into_blank.ensures c.in-Refused.is

pub returns-in-Tokens : goal.returns-in-Tokens
returns-in-Tokens c = going c.args.text.now c.into_blank.new.kinds c.into_blank.new.places c.into_blank.new.lengths c.into_blank.ensures c.in-Tokens.is (structured c.judge.result c.judge.ensures)
