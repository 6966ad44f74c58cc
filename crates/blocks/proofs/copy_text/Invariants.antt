-- `copy_text`: by the bytes passed.
use Rattle.parts.specs.Texts.{cells}
use Rattle.blocks.specs.Blocks.{Copied}
use Rattle.blocks.proofs.copy_text.Given as goal

abbrev pub invariant-loop-k : goal.invariant-loop-k
invariant-loop-k l = Copied (cells l.from l.p l.n) 0 l.initial.to l.q l.k l.to
