-- `small_text`: the bytes passed are not over 127.
use Rattle.given.specs.Small.{Ascii}
use Rattle.given.proofs.small_text.Given as goal

abbrev pub invariant-loop-k : goal.invariant-loop-k
invariant-loop-k l = Ascii l.b l.p l.k
