-- `pack`: by the places passed.
use Rattle.square.specs.Square.{byte_of, Upto}
use Rattle.square.proofs.pack.Given as goal

abbrev pub invariant-loop-k : goal.invariant-loop-k
invariant-loop-k l = Upto (byte_of l.w) 0 l.k l.byte-items
