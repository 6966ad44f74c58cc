-- `text_at`: one pair more, or the end at what is no pair or at one byte.
use Rattle.std.proofs.Common.{arith, sym, ◌∙◌}
use Rattle.script.specs.LexemesLaws.{reading_none, reading_more, reading_end, text_short, text_end, text_more}
use Rattle.script.proofs.lexemes.text_at.Goals as goal

pub loop-b-init : goal.loop-b-init
loop-b-init c = reading_none c.args.s.now c.args.at c.args.bytes.now c.args.from

pub returns-in_default : goal.returns-in_default
returns-in_default c = reading_end c.loop-b.invariant (text_end c.args.s.now c.loop-b.p (omega arith) (sym c.in_default.is ∙ c.pair.ensures))

pub loop-b-preserved : goal.loop-b-preserved
loop-b-preserved c = reading_more c.loop-b.invariant (text_more c.args.s.now c.loop-b.p (omega arith) c.in-Some.ensures) c.put.ensures c.longer-n.ensures

pub returns : goal.returns
returns c = reading_end c.loop-b.invariant (text_short c.args.s.now c.loop-b.p (omega arith))
