-- `spell`: before each turn the parts that were passed have their letters.
use Rattle.std.proofs.Common.{refl, inl, inr, arith}
use Rattle.parts.specs.Part.{table}
use Rattle.told_refusal.specs.SettledLaws.{letters_none, letters_more, letters_full, letters_all}
use Rattle.told_refusal.proofs.typed.spell.Goals as goal

pub loop-p-init : goal.loop-p-init
loop-p-init c = let a = c.args in (letters_none (table a.cells.now a.bytes.now) a.names.now a.types.now a.from a.letters.now, inr refl)

pub returns-then-letters-p : goal.returns-then-letters-p
returns-then-letters-p c = letters_full c.loop-p.invariant.0 c.args.to c.loop-p-test.true c.if-letters-p.true

pub loop-p-preserved : goal.loop-p-preserved
loop-p-preserved c = let l = c.loop-p-test.true in (letters_more c.loop-p.invariant.0 c.if-letters-p.false c.letter.ensures, inl (omega arith))

pub returns : goal.returns
returns c = letters_all c.loop-p.invariant.0 c.args.to c.loop-p-test.false c.loop-p.invariant.1
