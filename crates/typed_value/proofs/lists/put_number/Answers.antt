-- `put_number`: what is past the end is not written.
use Rattle.std.proofs.Common.{sym}
use Rattle.std.proofs.lemmas.List.{set_past}
use Rattle.typed_value.proofs.lists.put_number.Goals as goal

pub returns-else-i-numbers : goal.returns-else-i-numbers
returns-else-i-numbers c = sym (set_past c.args.numbers.now c.args.i c.args.x c.if-i-numbers.false)
