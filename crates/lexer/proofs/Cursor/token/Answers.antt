-- `Cursor::token`: where the longest match has no byte, no rule matches.
use Rattle.lexer.proofs.Rules.{settled_none}
use Rattle.lexer.proofs.Cursor.token.Goals as goal

pub returns-then-len-eq0 : goal.returns-then-len-eq0
returns-then-len-eq0 c = settled_none c.args.text.now c.args.self.at c.longest-best.result c.if-len-eq0.true c.longest-best.ensures
