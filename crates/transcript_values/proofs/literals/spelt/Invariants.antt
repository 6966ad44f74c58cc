-- `spelt`: after i turns the digits of the first i bytes are appended.
use Rattle.std.proofs.Common.{◌+◌, ◌-◌}
use Rattle.parts.specs.Texts.{cells}
use Rattle.values.specs.Meaning.{bytes_of}
use Rattle.digits.specs.AppendsLaws.{Begun}
use Rattle.transcript_values.specs.Literals.{all_hex}
use Rattle.transcript_values.proofs.literals.spelt.Given as goal

abbrev pub invariant-loop-i : goal.invariant-loop-i
invariant-loop-i l = Begun l.fn.out l.out l.o l.p (all_hex (cells l.bytes (l.h.at + l.i) (l.h.len - l.i))) (all_hex (bytes_of l.bytes l.h))
