-- `line::answer` meets its contract: the tokens' columns are read, or the tokens refuse the line.
use Rattle.std.proofs.Common.{length}
use Rattle.line_answer.specs.Writing.{refuses}
use Rattle.line_answer.specs.Whole.{early, read, are_blank, an_answer}
use Rattle.line_answer.proofs.answer.Goals as goal

pub tested-requires-clause-lexed : goal.tested-requires-clause-lexed
tested-requires-clause-lexed c =
    let n = c.into_blank.new in read c.args.line.now n.kinds n.places n.lengths c.into_blank.ensures c.in-Tokens.is

pub returns-in-Refused : goal.returns-in-Refused
returns-in-Refused c =
    let n = c.into_blank.new in
    let e = length c.args.out.now in
    let b = are_blank e c.clear_bytes.ensures c.if-out-lt-LIMIT.false in
    an_answer e c.clear_bytes.ensures c.if-out-lt-LIMIT.false (refuses b (early c.args.line.now n.kinds n.places n.lengths c.into_blank.ensures c.in-Refused.is) c.refused.ensures)
