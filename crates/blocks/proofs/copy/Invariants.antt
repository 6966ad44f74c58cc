-- `copy`: by the elements passed.
use Rattle.blocks.specs.Blocks.{CopiedOf}
use Rattle.blocks.proofs.copy.Given as goal

abbrev pub invariant-loop-k : goal.invariant-loop-k
invariant-loop-k g l = CopiedOf l.none l.from l.p l.initial.to l.q l.k l.to
