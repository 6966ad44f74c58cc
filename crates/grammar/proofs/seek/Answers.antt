-- `seek`: the alternative at a begins with k.
use Rattle.std.proofs.Common.{sym, ◌∙◌}
use Rattle.grammar.proofs.TableLaws.{seek_hit}
use Rattle.grammar.proofs.seek.Goals as goal

pub returns-then-byte-k : goal.returns-then-byte-k
returns-then-byte-k c = c.loop-a.invariant ∙ seek_hit c.args.k c.loop-a.a c.args.to c.loop-a-test.true c.requires.from_le_to.1 (sym c.byte.ensures ∙ c.if-byte-k.true)
