-- `may_be_empty` reads what the table has of Form's blanks.
use Rattle.std.proofs.Common.{ℕ, ◌+◌, List, get_or, eqb, ap, sym, ◌∙◌, le-leb}
use Rattle.grammar.proofs.TableLaws.{blank_at, empty_none}
use Rattle.grammar.proofs.may_be_empty.Goals as goal

pub returns-then-x-ge-SYMBOLS : goal.returns-then-x-ge-SYMBOLS
returns-then-x-ge-SYMBOLS c = le-leb 48 c.args.x c.if-x-ge-SYMBOLS.true ∙ sym (empty_none c.args.x c.if-x-ge-SYMBOLS.true)

pub returns-else-x-ge-SYMBOLS : goal.returns-else-x-ge-SYMBOLS
returns-else-x-ge-SYMBOLS c = ap (λ (l : List ℕ). eqb (get_or l (49 + c.args.x) 0) 49) c.requires ∙ blank_at c.args.x c.if-x-ge-SYMBOLS.false
