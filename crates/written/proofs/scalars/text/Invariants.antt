-- `text`: after i turns the first i bytes are appended.
use Rattle.std.proofs.Common.{◌+◌, ◌-◌}
use Rattle.parts.specs.Texts.{cells}
use Rattle.values.specs.Meaning.{bytes_of}
use Rattle.digits.specs.AppendsLaws.{Begun}
use Rattle.written.proofs.scalars.text.Given as goal

abbrev pub invariant-loop-i : goal.invariant-loop-i
invariant-loop-i l = Begun l.fn.out l.out l.o l.p (cells l.bytes (l.h.at + l.i) (l.h.len - l.i)) (bytes_of l.bytes l.h)
