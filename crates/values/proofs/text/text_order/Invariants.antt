-- `text_order`: up to i the texts are alike, so that their order is settled from i on.
use Rattle.values.specs.Meaning.{bytes_of}
use Rattle.values.proofs.Texts.{From}
use Rattle.values.proofs.text.text_order.Given as goal

abbrev pub invariant-loop-i : goal.invariant-loop-i
invariant-loop-i l = From (bytes_of l.bytes l.g) (bytes_of l.bytes l.h) l.i
