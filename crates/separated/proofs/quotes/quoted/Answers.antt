-- `quoted`: a quote, what stands between, and a quote.
use Rattle.digits.specs.AppendsLaws.{append_then}
use Rattle.separated.specs.Quotes.{between}
use Rattle.separated.proofs.quotes.quoted.Goals as goal

pub returns : goal.returns
unfolding between
returns c = append_then (append_then c.byte-p.ensures c.doubled-q.ensures) c.byte.ensures
