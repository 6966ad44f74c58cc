-- `close`: from every place passed the answer is the same.
use Rattle.std.proofs.Common.{◌≡◌, ◌+◌, drop}
use Rattle.typed_value.specs.Texts.{inside}
use Rattle.typed_value.proofs.lexemes.close.Given as goal

abbrev pub invariant-loop-p : goal.invariant-loop-p
invariant-loop-p l = l.from + inside l.quote l.quote (drop l.from l.s) ≡ l.p + inside l.quote l.before (drop l.p l.s)
