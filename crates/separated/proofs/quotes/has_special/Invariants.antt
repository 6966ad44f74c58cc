-- `has_special`: the bytes up to the index have none.
use Rattle.std.proofs.Common.{◌≡◌, false, take}
use Rattle.separated.specs.Quotes.{specials}
use Rattle.separated.proofs.quotes.has_special.Given as goal

abbrev pub invariant-loop-b : goal.invariant-loop-b
invariant-loop-b l = specials l.separator (take l.b-index l.field) ≡ false
