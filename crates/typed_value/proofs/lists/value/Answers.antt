-- `value`: a list, or one element.
use borrow.Author.Tests.{eq-eqb, ne_eqb}
use Rattle.typed_value.specs.Values.{value_at}
use borrow.Author.Rules.{rules}
use Rattle.typed_value.proofs.lists.value.Goals as goal

pub returns-then-byte-eq91 : goal.returns-then-byte-eq91
unfolding value_at
returns-then-byte-eq91 c = (search rules, rw (← c.byte.ensures, eq-eqb c.byte.result 91 c.if-byte-eq91.true, ← c.next.ensures.1) c.list.ensures.1)

pub returns : goal.returns
unfolding value_at
returns c = (c.one.ensures.0, rw (← c.byte.ensures, ne_eqb c.byte.result 91 c.if-byte-eq91.false) c.one.ensures.1)
