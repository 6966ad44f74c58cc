-- `escaped`: a quote twice, any other byte once.
use Rattle.std.proofs.Common.{ap, eq-eqb, Bool}
use Rattle.digits.specs.AppendsLaws.{append_then, appends_as}
use Rattle.separated.specs.Quotes.{once_or_twice}
use Rattle.separated.proofs.quotes.escaped.Goals as goal

pub returns-then-b-eq-QUOTE : goal.returns-then-b-eq-QUOTE
returns-then-b-eq-QUOTE c = appends_as (ap (λ (t : Bool). once_or_twice t c.args.b) (eq-eqb c.args.b 34 c.if-b-eq-QUOTE.true)) (append_then c.byte-p.ensures c.byte.ensures)
