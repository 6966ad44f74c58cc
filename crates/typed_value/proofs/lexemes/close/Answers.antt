-- `close`: a place that closes ends what stands between the quotes, and so does the end of the text.
use Rattle.std.proofs.Common.{arith}
use Rattle.std.proofs.lemmas.Grind.{common_steps}
use Rattle.typed_value.specs.Texts.{close_of}
use Rattle.typed_value.specs.TextLaws.{inside_end, inside_stop}
use Rattle.typed_value.proofs.lexemes.close.Goals as goal

pub returns-then-s-p : goal.returns-then-s-p
unfolding close_of
returns-then-s-p c = grind (arith, common_steps, inside_stop)

pub returns : goal.returns
unfolding close_of
returns c = grind (arith, common_steps, inside_end)
